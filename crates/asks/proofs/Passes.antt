-- Laws of a pass over the numbers of a list, one vertex after the other.
--   le_z_pred, level                 a number against the cell on the low side of a corner; against one that is counted from -32768
--   handed                           a number as a machine hands it on
--   at_or_below_passed               where the first two tests of a vertex pass, the third decides
--   vertex_of, vertices_by_three     the vertex of three numbers; the numbers of a list three by three are its vertices
--   crossing                         the crossing of a number that was handed on
--   permitted_cons                   one vertex more
--   turned_by, turned_all            turned by each vertex at or below a cell: whether their number is odd
use mathlib.Core.Path.{◌≡◌, refl, sym, ◌∙◌, ap, ap₂}
use mathlib.Core.Bool.{Bool, true, false, not, ◌&&◌, beq}
use mathlib.Core.List.{List, [], ◌∷◌, map}
use Prim.Native.Nat.{ℕ, zero, suc, ◌+◌, ◌-◌, ◌/◌}
use native.Mathlib.Omega.{arith}
use borrow.Author.Tests.{ltb-true, ltb-false, le-leb, lt-leb, le-ltb}
use lib.Dec.{leb, ltb}
use lib.IntN.{ℤ, pos, negsuc, pred_ℤ}
use lib.Signed.{le_z, lt_z}
use lib.ListN.{length}
use mir.Syntax.{w16}
use mir.Val.{SFits, to_z, of_z}
use mir.ValLaws.{to_z-of_z}
use Rattle.std.specs.Simd.{first_chunks}
use Rattle.std.specs.List.{fold}
use Rattle.meaning.specs.Numbers.{corner}
use Rattle.meaning.specs.declared.Cell.{Cell}
use Rattle.meaning.specs.declared.Corner.{Corner}
use Rattle.meaning.specs.Lists.{vertices, at_or_below, permitted}
use Rattle.meaning.proofs.Parity.{◌⊕◌, ⊕_false, ⊕_assoc, odd_count}
use Rattle.codes.specs.Lift.{lifted, lowered}
use Rattle.codes.proofs.Shift.{down_below, down_not}
use Rattle.codes.proofs.Tests.{leb_same}
use Rattle.asks.specs.Passes.{vertex_at}

pub le_z_pred : (y z : ℤ) → le_z y (pred_ℤ z) ≡ lt_z y z
le_z_pred (pos m) (pos zero) = sym (le-ltb m 0 (omega arith))
le_z_pred (negsuc m) (pos zero) = le-leb 0 m (omega arith)
le_z_pred (pos m) (pos (suc n)) = leb_same m n (suc m) (suc n) (λ h. omega arith) (λ h. omega arith)
le_z_pred (negsuc m) (pos (suc n)) = refl
le_z_pred (pos m) (negsuc n) = refl
le_z_pred (negsuc m) (negsuc n) = refl

-- a number is at most one that is counted from -32768 exactly when its crossing is: so far below that it has no crossing, 0 stands for it
pub level : (y : ℤ) (n : ℕ) → le_z y (lowered n) ≡ leb (lifted y) n
level y n = go y (ltb n 32768) refl
  where
    go : (y : ℤ) (t : Bool) → ltb n 32768 ≡ t → le_z y (lowered n) ≡ leb (lifted y) n
    go (pos m) true e = ap (le_z (pos m)) (down_below n 32768 (ltb-true n 32768 e)) ∙ sym (lt-leb (m + 32768) n (omega (arith, ltb-true n 32768 e)))
    go (negsuc m) true e =
        let h = ltb-true n 32768 e in
        ap (le_z (negsuc m)) (down_below n 32768 h) ∙ leb_same (32768 - suc n) m (32767 - m) n (λ k. omega arith) (λ k. omega arith)
    go (pos m) false e =
        let h = ltb-false n 32768 e in
        ap (le_z (pos m)) (down_not n 32768 h) ∙ leb_same m (n - 32768) (m + 32768) n (λ k. omega arith) (λ k. omega arith)
    go (negsuc m) false e = ap (le_z (negsuc m)) (down_not n 32768 (ltb-false n 32768 e)) ∙ sym (le-leb (32767 - m) n (omega (arith, ltb-false n 32768 e)))

-- a number as a machine hands it on
abbrev pub handed : ℤ → ℤ
handed z = to_z w16 (of_z w16 z)

-- of numbers as a machine hands them on: where the first two tests of a vertex pass, the third decides
pub at_or_below_passed : (c : Cell) (w : Corner) → SFits w16 w.focus → SFits w16 w.first → SFits w16 w.second
    → SFits w16 c.focus → SFits w16 c.first → SFits w16 c.second
    → le_z (handed w.focus) (handed c.focus) ≡ true → le_z (handed w.first) (handed c.first) ≡ true
    → le_z (handed w.second) (handed c.second) ≡ at_or_below c w
at_or_below_passed c w f₁ f₂ f₃ g₁ g₂ g₃ h k =
    ap₂ (λ s t. s && (t && le_z (handed w.second) (handed c.second))) (sym h) (sym k)
    ∙ ap₂ ◌&&◌ (test w.focus c.focus f₁ g₁) (ap₂ ◌&&◌ (test w.first c.first f₂ g₂) (test w.second c.second f₃ g₃))
  where
    test : (y z : ℤ) → SFits w16 y → SFits w16 z → le_z (handed y) (handed z) ≡ le_z y z
    test y z f g = ap₂ le_z (to_z-of_z w16 y f) (to_z-of_z w16 z g)

-- the vertex of three numbers
abbrev pub vertex_of : List ℤ → Corner
vertex_of numbers = vertex_at numbers 0

-- the numbers three by three are the vertices
pub vertices_by_three : (ns : List ℤ) → map vertex_of (first_chunks 3 (length ns / 3) ns) ≡ vertices ns
vertices_by_three ns = go ns (length ns / 3) refl
  where
    go : (ns : List ℤ) (n : ℕ) → n ≡ length ns / 3 → map vertex_of (first_chunks 3 n ns) ≡ vertices ns
    go [] zero e = refl
    go (x ∷ []) zero e = refl
    go (x ∷ y ∷ []) zero e = refl
    go (x ∷ y ∷ z ∷ l) zero e = absurd (omega arith)
    go [] (suc n) e = absurd (omega arith)
    go (x ∷ []) (suc n) e = absurd (omega arith)
    go (x ∷ y ∷ []) (suc n) e = absurd (omega arith)
    go (x ∷ y ∷ z ∷ l) (suc n) e = ap (corner x y z ∷◌) (go l n (omega arith))

pub permitted_cons : (v : Corner) (l : List Corner) (c : Cell) → permitted (v ∷ l) c ≡ (at_or_below c v ⊕ permitted l c)
permitted_cons v l c = odd_count (at_or_below c) (v ∷ l) ∙ ap (at_or_below c v ⊕◌) (sym (odd_count (at_or_below c) l))

-- exclusive or, as a machine has it
xor_⊕ : (a b : Bool) → not (beq a b) ≡ (a ⊕ b)
xor_⊕ true true = refl
xor_⊕ true false = refl
xor_⊕ false true = refl
xor_⊕ false false = refl

-- turned by each vertex at or below the cell
abbrev pub turned_by : Cell → Bool → List ℤ → Bool
turned_by c odd numbers = not (beq odd (at_or_below c (vertex_of numbers)))

pub turned_all : (c : Cell) (ls : List (List ℤ)) (odd : Bool) → fold (turned_by c) odd ls ≡ (odd ⊕ permitted (map vertex_of ls) c)
turned_all c [] odd = sym (⊕_false odd)
turned_all c (n ∷ ls) odd =
    let b = at_or_below c (vertex_of n) in
    let rest = permitted (map vertex_of ls) c in
    turned_all c ls (turned_by c odd n)
    ∙ ap (◌⊕ rest) (xor_⊕ odd b)
    ∙ ⊕_assoc odd b rest
    ∙ ap (odd ⊕◌) (sym (permitted_cons (vertex_of n) (map vertex_of ls) c))

-- the crossing of a number that was handed on
pub crossing : (z : ℤ) (u : ℕ) → SFits w16 z → u ≡ lifted (handed z) → u ≡ lifted z
crossing z u f e = e ∙ ap lifted (to_z-of_z w16 z f)
