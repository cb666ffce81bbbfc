-- Inner: keys that are written one by one.
--   Writes        a call may write the numbers of a key to so many places
--   Spells        what a call leaves is what a key spells: a list of keys spells what its members do, one after the other
use Rattle.std.specs.Prelude.{◌≡◌, List, [], ◌∷◌, ◌++◌, ℕ, ℤ, length}
use denote.Ref.{MutBor}
use denote.Param.Members.{Shared}

module _ {F : Type 0} (g : Shared F (ℕ × (MutBor (List ℤ) × Unit {0})) (Unit {0} × (MutBor (List ℤ) × Unit {0}))) (f : F) where
  abbrev pub Writes : ℕ → ℕ → Type 0
  Writes width k = (p : MutBor (List ℤ)) → length p.now ≡ width → g.pre f (k, (p, tt))

  pub record Spells (spell : List ℕ → List ℤ) : Type 0 where
    pub nothing : spell [] ≡ []
    pub member : (k : ℕ) (p q : MutBor (List ℤ)) → g.post f (k, (p, tt)) (tt, (q, tt)) → (ks : List ℕ) → spell (k ∷ ks) ≡ q.now ++ spell ks
