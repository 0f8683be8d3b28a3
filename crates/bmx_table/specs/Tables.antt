-- What a table tells.
use Rattle.std.specs.Prelude.{◌≡◌, ℕ, ◌==◌, List, [], ◌∷◌, if◌then◌else◌, refl}

-- a node tells these of itself to itself alone
abbrev pub own_alone : {X : Type 0} → ℕ → ℕ → List X → List X
own_alone from to xs = if from == to then xs else []

told_to_itself : own_alone {X = ℕ} 1 1 (5 ∷ 7 ∷ []) ≡ 5 ∷ 7 ∷ []
told_to_itself = refl

not_told_to_another : own_alone {X = ℕ} 1 2 (5 ∷ 7 ∷ []) ≡ []
not_told_to_another = refl
