-- The one list of a set (document 01, "Back again"; report, lemma 3.8).
--   WithinCodes, SquaresWithin      sets that have no member outside the codes
--   corner_numbers                   -512 to 512, rising
--   corners_over, pairs_over          every triple, and every pair, of some numbers, in the order of a list
--   one_list_over, one_list            of a set of cells: every corner, in order, round which an odd number of cells is in the set
--   around, listed_pair              the four squares round a pair; an odd number of them in a set of squares
--   one_pairs_over, one_pairs          of a set of squares: every pair, in order, round which an odd number of squares is in the set
-- The lists over all corner numbers are never computed: small examples take few numbers.
use Rattle.std.specs.Prelude.{◌≡◌, Bool, true, false, ◌&&◌, List, [], ◌∷◌, ◌++◌, map, ℤ}
use Rattle.meaning.specs.Numbers.{Square, Pair, corner, square, pair, number, is_code, is_cell}
use Rattle.meaning.specs.declared.Cell.{Cell}
use Rattle.meaning.specs.declared.Corner.{Corner}
use Rattle.meaning.specs.Counting.{count, odd, keep, upto}
use Rattle.meaning.specs.Lists.{beside, listed}

abbrev pub WithinCodes : (Cell → Bool) → Type 0
WithinCodes S = (c : Cell) → S c ≡ true → is_cell c ≡ true

abbrev pub SquaresWithin : (Square → Bool) → Type 0
SquaresWithin S = (s : Square) → S s ≡ true → (is_code s.one && is_code s.two) ≡ true

unfoldable pub corner_numbers : List ℤ
corner_numbers = map number (upto 1024)

-- the lists that f gives of each member, one after the other
abbrev pub each : {A B : Type 0} → (A → List B) → List A → List B
each f [] = []
each f (x ∷ l) = f x ++ each f l

abbrev pub pairs_over : List ℤ → List Pair
pairs_over ns = each (λ u. map (λ w. pair u w) ns) ns

abbrev pub corners_over : List ℤ → List Corner
corners_over ns = each (λ x. map (λ p. corner x p.one p.two) (pairs_over ns)) ns

abbrev pub one_list_over : List ℤ → (Cell → Bool) → List Corner
one_list_over ns S = keep (listed S) (corners_over ns)

unfoldable pub one_list : (Cell → Bool) → List Corner
one_list S = one_list_over corner_numbers S

abbrev pub around : Pair → List Square
around p =
    square (beside false p.one) (beside false p.two) ∷
    square (beside false p.one) (beside true p.two) ∷
    square (beside true p.one) (beside false p.two) ∷
    square (beside true p.one) (beside true p.two) ∷
    []

abbrev pub listed_pair : (Square → Bool) → Pair → Bool
listed_pair S p = odd (count S (around p))

abbrev pub one_pairs_over : List ℤ → (Square → Bool) → List Pair
one_pairs_over ns S = keep (listed_pair S) (pairs_over ns)

unfoldable pub one_pairs : (Square → Bool) → List Pair
one_pairs S = one_pairs_over corner_numbers S
