-- Keys that stand for the lists of a section and of the halves of a split.
--   keys_of                        a list of keys at the front of a slice, as what it stands for
--   read_front                     the keys of a list's vertices, as they are read
--   length_below, below_few        of the pair keys at or below a cut there are no more than keys
--   section_list, section_made     the pair keys of a section in order are those of the one list of its pairs
--   upper_list_lem, upper_made, lower_list_lem, lower_made     the keys of the halves in order are those of their one lists
-- Assumes nothing.
use mathlib.Core.Path.{◌≡◌, sym, ◌∙◌, ap, ap₂, subst}
use mathlib.Core.Bool.{Bool, true, false, cond}
use mathlib.Core.List.{List, [], ◌∷◌, ◌++◌, map}
use Prim.Native.Nat.{ℕ, suc, ◌+◌, ◌*◌, ◌≤◌}
use native.Mathlib.Omega.{arith}
use lib.Dec.{leb}
use lib.ListN.{length, take, drop, length-map}
use lib.Seq.{take_at}
use Rattle.meaning.specs.Numbers.{Axis, number}
use Rattle.meaning.specs.declared.Corner.{Corner}
use Rattle.meaning.specs.Counting.{keep, All}
use Rattle.meaning.specs.Lists.{permitted, Valid}
use Rattle.meaning.specs.OneList.{one_list, one_pairs}
use Rattle.meaning.specs.Operations.{section_at, lower_half, upper_half}
use Rattle.meaning.proofs.Parity.{◌⊕◌, sum}
use Rattle.meaning.proofs.Maps.{valid_within}
use Rattle.meaning.proofs.Making.{section_within, lower_within, upper_within}
use Rattle.codes.specs.Keys.{key_of, of_key}
use Rattle.rising.specs.Merged.{merged, norm}
use Rattle.rising.specs.Placed.{Placed, Front}
use Rattle.rising.proofs.Sums.{sum_norm, all_norm, length_norm, sum_merged, from_merged, all_merged, norm_from}
use Rattle.rising.proofs.Order.{placed_front, front_few, front_append}
use Rattle.keys.specs.Parts.{KeyOk, PairOk, pair_of_key, key_fits, pair_fits, part_on}
use Rattle.keys.proofs.Corners.{keys_ok, keys_rise, one_keys_lem}
use Rattle.keys.proofs.Pairs.{one_pair_keys}
use Rattle.parts.specs.Axes.{pair_on, raised_key, pairs_below, KeysOf}
use Rattle.parts.proofs.Along.{pairs_below_ok, section_keys, all_raised, upper_keys, lower_keys}

pub keys_of : {A : Type 0} (Ok : ℕ → Type 0) (of : ℕ → A) {l : List A} {ks now : List ℕ} {n : ℕ} → Front ks now n → All Ok ks → map of ks ≡ l
    → KeysOf Ok of l now n
keys_of Ok of f h e = record { few = front_few f; good = subst (All Ok) (sym f.contents) h; members = ap (map of) f.contents ∙ e }

-- ---- keys as they are read

pub read_front : (l : List Corner) (before : List ℕ) {now : List ℕ} {n : ℕ} → n ≡ length l → now ≡ map key_of l ++ drop n before → take n now ≡ map key_of l
read_front l before {n = n} e f = ap (take n) f ∙ take_at (map key_of l) (drop n before) n (length-map l key_of ∙ sym e)

-- ---- what is made of them

keep_length : (p : ℕ → Bool) (l : List ℕ) → length (keep p l) ≤ length l
keep_length p [] = omega arith
keep_length p (x ∷ l) = go (p x) (keep_length p l)
  where
    go : (b : Bool) → length (keep p l) ≤ length l → length (cond b (x ∷ keep p l) (keep p l)) ≤ suc (length l)
    go true h = omega arith
    go false h = omega arith

length_below : (axis : Axis) (cut : ℕ) (ks : List ℕ) → length (pairs_below axis cut ks) ≤ length ks
length_below axis cut ks =
    let below : ℕ → Bool = λ k. leb (part_on axis k) cut in
    omega (arith, length-map (keep below ks) (pair_on axis), keep_length below ks)

pub below_few : (axis : Axis) (cut : ℕ) (read : List ℕ) {keys now : List ℕ} {n : ℕ} → Placed (pairs_below axis cut read) keys now n
    → length (take n now) ≤ length read
below_few axis cut read p = omega (arith, ap length (placed_front p).contents, length_below axis cut read)

-- ---- the one lists

module _ (axis : Axis) (l : List Corner) (valid : Valid l) where
  module _ (cut : ℕ) where
    pub section_ok : All PairOk (norm (pairs_below axis cut (map key_of l)))
    section_ok = all_norm PairOk (pairs_below axis cut (map key_of l)) (pairs_below_ok axis cut (map key_of l) (keys_ok l valid.corners))

    pub section_list : map pair_of_key (norm (pairs_below axis cut (map key_of l))) ≡ one_pairs (section_at axis (number cut) (permitted l))
    section_list =
        one_pair_keys (section_at axis (number cut) (permitted l)) (section_within axis (number cut) (permitted l) (valid_within l valid))
        (norm (pairs_below axis cut (map key_of l))) (norm_from (pairs_below axis cut (map key_of l)))
        (λ b d. sum_norm (pair_fits b d) (pairs_below axis cut (map key_of l)) ∙ section_keys axis cut l valid.corners b d)

    -- the pair keys, brought to order in front of a slice
    pub section_made : {read keys now x : List ℕ} {n m : ℕ} → read ≡ map key_of l → Placed (pairs_below axis cut read) keys now n → Front (norm (take n now)) x m
        → (r : List ℕ) → KeysOf PairOk pair_of_key (one_pairs (section_at axis (number cut) (permitted l))) (x ++ r) m
    section_made {x = x} {m = m} e p f r =
        let is = (placed_front p).contents ∙ ap (pairs_below axis cut) e in
        keys_of PairOk pair_of_key (subst (λ (ks : List ℕ). Front (norm ks) (x ++ r) m) is (front_append f r)) section_ok section_list

  module _ (p : ℕ) (hp : p ≤ 1024) where
    abbrev raised : List ℕ
    raised = map (raised_key axis p) (map key_of l)

    pub upper_ok : All KeyOk (norm raised)
    upper_ok = all_norm KeyOk raised (all_raised axis p hp (map key_of l) (keys_ok l valid.corners))

    pub upper_list_lem : map of_key (norm raised) ≡ one_list (upper_half axis (number p) (permitted l))
    upper_list_lem =
        one_keys_lem (upper_half axis (number p) (permitted l)) (upper_within axis (number p) (permitted l) (valid_within l valid))
        (norm raised) (norm_from raised) upper_ok
        (λ a b d. sum_norm (key_fits a b d) raised ∙ upper_keys axis p hp l valid.corners a b d)

    pub lower_ok : All KeyOk (merged (map key_of l) (norm raised))
    lower_ok = all_merged KeyOk (map key_of l) (norm raised) (keys_ok l valid.corners) upper_ok

    pub lower_list_lem : map of_key (merged (map key_of l) (norm raised)) ≡ one_list (lower_half axis (number p) (permitted l))
    lower_list_lem =
        one_keys_lem (lower_half axis (number p) (permitted l)) (lower_within axis (number p) (permitted l) (valid_within l valid))
        (merged (map key_of l) (norm raised))
        (from_merged (map key_of l) (norm raised) 0 (keys_rise l valid.corners valid.rising) (norm_from raised))
        lower_ok
        (λ a b d.
        sum_merged (key_fits a b d) (map key_of l) (norm raised) ∙
        ap (sum (key_fits a b d) (map key_of l) ⊕◌) (sum_norm (key_fits a b d) raised) ∙
        lower_keys axis p hp l valid.corners a b d)

    module _ {whole : List ℕ} (e : whole ≡ map key_of l) {upper : List ℕ} {m : ℕ} (f : Front (norm (map (raised_key axis p) whole)) upper m) where
      in_order_lem : Front (norm raised) upper m
      in_order_lem = subst (λ (ks : List ℕ). Front (norm (map (raised_key axis p) ks)) upper m) e f

      pub upper_made : KeysOf KeyOk of_key (one_list (upper_half axis (number p) (permitted l))) upper m
      upper_made = keys_of KeyOk of_key in_order_lem upper_ok upper_list_lem

      pub lower_made : {before now : List ℕ} {n : ℕ} → Placed (merged whole (take m upper)) before now n
          → KeysOf KeyOk of_key (one_list (lower_half axis (number p) (permitted l))) now n
      lower_made {now = now} {n} g =
          keys_of KeyOk of_key (subst (λ (ks : List ℕ). Front ks now n) (ap₂ merged e in_order_lem.contents) (placed_front g)) lower_ok lower_list_lem

      -- the whole and the upper half have no more members than twice the vertices
      pub halves_room : (room : ℕ) → 2 * length l ≤ room → length whole + length (take m upper) ≤ room
      halves_room room h =
          omega (
            arith,
            ap length e,
            ap length in_order_lem.contents,
            length_norm raised,
            length-map (map key_of l) (raised_key axis p),
            length-map l key_of,
          )
