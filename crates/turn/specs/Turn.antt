-- Inner: one turn of a sweep (report, section 4). Planes are a stride apart; a section holds a plane's keys less the base where the plane begins.
--   plane_of, Ran     an operand's keys from a place to another; those below a limit, and no others after
--   NextOf           those that lie in the plane from a base on, and no others after
--   Least, Advanced  the least key that is left of two operands; the next plane of both
--   Taken            a section that has taken in a plane
use Rattle.std.specs.Prelude.{◌≡◌, ◌⊎◌, List, ℕ, ◌+◌, ◌-◌, ◌%◌, ◌≤◌, ◌<◌, length, take, drop, get_or}
use Rattle.meaning.specs.Counting.{All}
use Rattle.rising.specs.Merged.{merged, less_base}

abbrev pub plane_of : List ℕ → ℕ → ℕ → List ℕ
plane_of l i e = take (e - i) (drop i l)

abbrev pub Ran : List ℕ → ℕ → ℕ → ℕ → Type 0
Ran l i limit e = (i ≤ e) × (e ≤ length l) × All (λ k. k < limit) (plane_of l i e) × All (λ k. limit ≤ k) (drop e l)

pub record NextOf (stride : ℕ) (l : List ℕ) (i base e : ℕ) : Type 0 where
  pub from : i ≤ e
  pub upto : e ≤ length l
  pub in_it : All (λ k. (base ≤ k) × (k < base + stride)) (plane_of l i e)
  pub after : All (λ k. base + stride ≤ k) (drop e l)

-- the least key that is left of two operands decides the plane
pub record Least (a : List ℕ) (i : ℕ) (b : List ℕ) (j key : ℕ) : Type 0 where
  pub in_a : All (λ k. key ≤ k) (drop i a)
  pub in_b : All (λ k. key ≤ k) (drop j b)
  pub one_of : ((i < length a) × (get_or a i 0 ≡ key)) ⊎ ((j < length b) × (get_or b j 0 ≡ key))

pub record Advanced (stride : ℕ) (a : List ℕ) (i : ℕ) (b : List ℕ) (j base e f : ℕ) : Type 0 where
  pub key : ℕ
  pub least : Least a i b j key
  pub begins : base % stride ≡ 0
  pub low : base ≤ key
  pub high : key < base + stride
  pub in_a : NextOf stride a i base e
  pub in_b : NextOf stride b j base f
  pub on : i + j < e + f

pub record Taken (sec : List ℕ) (n : ℕ) (plane : List ℕ) (base : ℕ) (now : List ℕ) (m : ℕ) : Type 0 where
  pub count : m ≡ length (merged (take n sec) (less_base base plane))
  pub front : take m now ≡ merged (take n sec) (less_base base plane)
