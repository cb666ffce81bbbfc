-- What the working arrays of this crate say of a list of keys: inner wording, which no promise to users cites. Places count from 1 here, and 0 is none.
--   high, low          the two parts of a key
--   Parted             both parts of every key are below 1025
--   latest             the last of the first i places with a high part
--   prior, ends        the last place before a place, and the last of all, with the high part of its key
--   Headed, Linked     working arrays of the last place with each high part, and of what is prior to each place
--   flagged            whether the flag of the low part of the key at a place is up
--   ups                how many flags are up
--   Net                all places are linked, and where each chain ends
--   Chain              the places are linked, and a place is the last one of its chain
--   Turned             along the chain of a place, each flag was turned as often as its low part is met
--   FirstWith          the first place of a chain that has a property
--   FirstEnding        the first place, of the chain that ends at a place, whose key occurs an odd number of times
use Rattle.std.specs.Prelude.{◌≡◌, Bool, true, false, cond, List, ℕ, zero, suc, ◌+◌, ◌*◌, ◌/◌, ◌%◌, ◌<◌, ◌≤◌, eqb, length, get_or}
use Rattle.std.specs.Bool.{xor}
use Rattle.meaning.specs.Counting.{count, odd}
use Rattle.chains.specs.Odd.{occurs_oddly}

abbrev pub high : ℕ → ℕ
high key = key / 2048

abbrev pub low : ℕ → ℕ
low key = key % 2048

abbrev pub Parted : List ℕ → Type 0
Parted ks = (i : ℕ) → i < length ks → (high (get_or ks i 0) < 1025) × (low (get_or ks i 0) < 1025)

unfoldable pub latest : List ℕ → ℕ → ℕ → ℕ
latest ks h zero = 0
latest ks h (suc i) = cond (eqb (high (get_or ks i 0)) h) (suc i) (latest ks h i)

abbrev pub Headed : List ℕ → ℕ → List ℕ → Type 0
Headed ks n heads = (h : ℕ) → h < 1025 → get_or heads h 0 ≡ latest ks h n

-- the last place before place i, from 0, with its high part
abbrev pub prior : List ℕ → ℕ → ℕ
prior ks i = latest ks (high (get_or ks i 0)) i

abbrev pub Linked : List ℕ → ℕ → List ℕ → Type 0
Linked ks n links = (i : ℕ) → i < n → get_or links i 0 ≡ prior ks i

abbrev pub flagged : List ℕ → List Bool → ℕ → Bool
flagged ks flags i = get_or flags (low (get_or ks i 0)) false

unfoldable pub ups : List Bool → ℕ
ups flags = count (λ flag. flag) flags

-- all places are linked
pub record Net (ks heads links : List ℕ) : Type 0 where
  pub heads_long : length heads ≡ 1025
  pub links_long : length ks ≤ length links
  pub headed : Headed ks (length ks) heads
  pub linked : Linked ks (length ks) links

-- where the chain of a place ends
abbrev pub ends : List ℕ → ℕ → ℕ
ends ks k = latest ks (high (get_or ks k 0)) (length ks)

-- all places are linked, and this one, from 0, is the last of its chain
pub record Chain (ks links : List ℕ) (last : ℕ) : Type 0 where
  pub parted : Parted ks
  pub linked : Linked ks (length ks) links
  pub long : length ks ≤ length links
  pub within : last < length ks
  pub here : last + 1 ≡ ends ks last

-- whether the key with the high part of a place and another low part occurs an odd number of times
abbrev pub odd_beside : List ℕ → ℕ → ℕ → Bool
odd_beside ks last b = odd (count (λ k. eqb (high (get_or ks last 0) * 2048 + b) k) ks)

pub record Turned (ks : List ℕ) (last : ℕ) (before after : List Bool) : Type 0 where
  pub every : (b : ℕ) → b < 1025 → get_or after b false ≡ xor (get_or before b false) (odd_beside ks last b)

-- on the chain of a place: the first place with a property, or the length
pub record FirstWith (p : ℕ → Bool) (ks : List ℕ) (last r : ℕ) : Type 0 where
  pub within : r ≤ length ks
  pub found : r < length ks → (high (get_or ks r 0) ≡ high (get_or ks last 0)) × (p r ≡ true)
  pub before : (k : ℕ) → k < r → high (get_or ks k 0) ≡ high (get_or ks last 0) → p k ≡ false

-- on the chain that ends at a place, if one does: the first place whose key occurs an odd number of times, or the length
pub record FirstEnding (ks : List ℕ) (place r : ℕ) : Type 0 where
  pub within : r ≤ length ks
  pub found : r < length ks → occurs_oddly ks r ≡ true
  pub before : (k : ℕ) → k < r → ends ks k ≡ place + 1 → occurs_oddly ks k ≡ false
