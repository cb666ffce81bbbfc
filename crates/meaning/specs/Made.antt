-- What a list that was made is, cell by cell, and what pairs that were made are, square by square (document 01, "Back again" and "Section").
--   MapOf                            a travel map that permits exactly a set of cells, and lists a corner exactly when an odd number of its
--                                    eight cells is in the set
--   pairs                            from a list of numbers to its pairs, two numbers each
--   pair_at_or_below, permitted_square   a pair whose two numbers are not above the square's codes; an odd number of such pairs
--   pair_below, RisingPairs           the order of pairs: first number, then second; each pair above the one before it
--   PairsOf                          pairs that rise strictly, permit exactly a set of squares, and list a pair exactly when an odd number of
--                                    its four squares is in the set; no other pairs that rise permit that set
use Rattle.std.specs.Prelude.{◌≡◌, ◌↔◌, Bool, true, ◌&&◌, ◌||◌, ℤ}
use mathlib.Core.List.{List, [], ◌∷◌, Memᴰ}
use Rattle.std.specs.Int.Signed.{le_z, lt_z}
use Rattle.meaning.specs.Numbers.{Square, Pair, pair}
use Rattle.meaning.specs.declared.Cell.{Cell}
use Rattle.meaning.specs.declared.Corner.{Corner}
use Rattle.meaning.specs.Counting.{count, odd}
use Rattle.meaning.specs.Lists.{permitted, listed, same, Valid}
use Rattle.meaning.specs.OneList.{listed_pair}

pub record MapOf (S : Cell → Bool) (l : List Corner) : Type 0 where
  pub valid : Valid l
  pub permits : (c : Cell) → permitted l c ≡ S c
  pub lists : (v : Corner) → Memᴰ v l ↔ (listed S v ≡ true)

abbrev pub pairs : List ℤ → List Pair
pairs [] = []
pairs (x ∷ []) = []
pairs (x ∷ y ∷ l) = pair x y ∷ pairs l

abbrev pub pair_at_or_below : Square → Pair → Bool
pair_at_or_below s p = le_z p.one s.one && le_z p.two s.two

abbrev pub permitted_square : List Pair → Square → Bool
permitted_square l s = odd (count (pair_at_or_below s) l)

abbrev pub pair_below : Pair → Pair → Bool
pair_below p q = lt_z p.one q.one || same p.one q.one && lt_z p.two q.two

abbrev pub RisingPairs : List Pair → Type 0
RisingPairs [] = Unit {0}
RisingPairs (p ∷ []) = Unit {0}
RisingPairs (p ∷ q ∷ l) = (pair_below p q ≡ true) × RisingPairs (q ∷ l)

pub record PairsOf (S : Square → Bool) (l : List Pair) : Type 0 where
  pub rising : RisingPairs l
  pub permits : (s : Square) → permitted_square l s ≡ S s
  pub lists : (p : Pair) → Memᴰ p l ↔ (listed_pair S p ≡ true)
  pub only : (m : List Pair) → RisingPairs m → ((s : Square) → permitted_square m s ≡ S s) → m ≡ l
