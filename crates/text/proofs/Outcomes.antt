-- What the input comes to, and what is put out for it.
--   too_long_lem, not_long           by the bytes of the input
--   put_refusal, put_answers     one 06 line; the 05 lines
--   wishes_refused, wishes_answered, map_refused, map_answered, bytes_refused     the same of the whole response
use mathlib.Core.Path.{◌≡◌, refl, sym, ◌∙◌, ap, subst}
use mathlib.Core.Bool.{Bool, true, false, cond}
use mathlib.Core.List.{List, ◌++◌}
use Prim.Native.Nat.{ℕ, ◌*◌, ◌/◌, ◌≤◌, ◌<◌}
use native.Mathlib.Omega.{arith}
use borrow.Author.Tests.{lt-ltb, le-ltb}
use lib.Dec.{ltb}
use lib.IntN.{ℤ}
use lib.ListN.{length, take, drop, take-append-drop}
use lib.Seq.{length-take-le}
use Rattle.meaning.specs.Lists.{vertices}
use Rattle.lists.proofs.Vertices.{length_vertices}
use Rattle.reading.specs.Reading.{too_long, Text, refused, whole, map_text, wish_text}
use Rattle.answers.specs.Answers.{refusal_line, Answers, Filled, Written}
use Rattle.text.specs.Program.{refusal, answers, with_wishes, with_map, response, Put}
use Rattle.text.proofs.Settled.{most_bytes_lem}

-- ---- the length of the input

module _ (s : List ℕ) where
  by_bytes : (t : Bool) → ltb 19214 (length s) ≡ t → cond t (refusal too_long 0) (with_map s (map_text s)) ≡ response s
  unfolding response
  by_bytes t e = ap (λ u. cond u (refusal too_long 0) (with_map s (map_text s))) (sym e ∙ ap (λ n. ltb n (length s)) (sym most_bytes_lem))

  pub too_long_lem : 19214 < length s → refusal too_long 0 ≡ response s
  too_long_lem h = by_bytes true (lt-ltb 19214 (length s) h)

  pub not_long : length s ≤ 19214 → with_map s (map_text s) ≡ response s
  not_long h = by_bytes false (le-ltb 19214 (length s) h)

-- ---- what is put out

pub put_refusal : (a b : ℕ) {before after : List ℕ} {n : ℕ} → Filled (refusal_line a b) before n after → Put (refusal a b) before n after
put_refusal a b {before} {after} {n} (en, e) =
    let line = refusal_line a b in
    record { written = line; writes = refl; count = en; contents = e ∙ ap (λ k. line ++ drop k before) en }

pub put_answers : (ns ws : List ℤ) {before after : List ℕ} {r : ℕ} → r ≡ 17 * (length ws / 3) → 17 * (length ws / 3) ≤ length before
    → Written (vertices ns) ws (length ws / 3) before after → Put (answers ns ws) before r after
put_answers ns ws {before} {after} {r} er h w =
    let long : length (take r after) ≡ r = length-take-le r after (omega (arith, w.long)) in
    record {
      written = take r after;
      writes = subst (λ k. Answers (vertices ns) ws (length ws / 3) (take k after)) (sym er) w.front;
      count = sym long;
      contents =
          sym (take-append-drop r after) ∙
          ap (take r after ++◌) (subst (λ k. drop k after ≡ drop k before) (sym er) w.behind ∙ ap (λ k. drop k before) (sym long));
    }

-- the same of the wishes behind a map, which begin behind as many vertices as it has, and of the map
module _ (s : List ℕ) (ns : List ℤ) {before after : List ℕ} {r n : ℕ} (en : n ≡ length ns / 3) where
  behind : {o : Text} → o ≡ wish_text s n → Put (with_wishes ns o) before r after → Put (with_map s (whole ns)) before r after
  behind e p = subst (λ o. Put (with_wishes ns o) before r after) (e ∙ ap (wish_text s) (en ∙ sym (length_vertices ns))) p

  pub wishes_refused : {a b : ℕ} → refused a b ≡ wish_text s n → Filled (refusal_line a b) before r after → Put (with_map s (whole ns)) before r after
  wishes_refused e f = behind e (put_refusal _ _ f)

  pub wishes_answered : {ws : List ℤ} → whole ws ≡ wish_text s n → r ≡ 17 * (length ws / 3) → 17 * (length ws / 3) ≤ length before
      → Written (vertices ns) ws (length ws / 3) before after → Put (with_map s (whole ns)) before r after
  wishes_answered {ws} e er h w = behind e (put_answers ns ws er h w)

module _ (s : List ℕ) (short : length s ≤ 19214) {before after : List ℕ} {r : ℕ} where
  pub map_answered : {o : Text} → o ≡ map_text s → Put (with_map s o) before r after → Put (response s) before r after
  map_answered e p = subst (λ o. Put o before r after) (ap (with_map s) e ∙ not_long s short) p

  pub map_refused : {a b : ℕ} → refused a b ≡ map_text s → Filled (refusal_line a b) before r after → Put (response s) before r after
  map_refused e f = map_answered e (put_refusal _ _ f)

pub bytes_refused : (s : List ℕ) {before after : List ℕ} {r : ℕ} → 19214 < length s → Filled (refusal_line too_long 0) before r after
    → Put (response s) before r after
bytes_refused s {before} {after} {r} long f = subst (λ o. Put o before r after) (too_long_lem s long) (put_refusal too_long 0 f)
