-- What a collection keeps: the least set that has the roots and, with a name, its targets.
use Rattle.std.specs.Prelude.{◌≡◌, ℕ, ◌==◌, ◌&&◌, if◌then◌else◌, List, [], ◌∷◌, Option, Some, None, IsTrue, refl}
use Rattle.bmx_mark.specs.Marks.{Marking, names_in, has_name, is_marked}

-- x is reached: it is a root, or a field of a name that is reached refers to it
pub data IsReached (roots : List ℕ) (target : ℕ → ℕ → Option ℕ) : ℕ → Type 0 where
  Root : {x : ℕ} → IsTrue (has_name roots x) → IsReached roots target x
  InField : {y : ℕ} (x i : ℕ) → IsReached roots target x → target x i ≡ Some y → IsReached roots target y

-- the roots are marked, what is marked is reached, and each target of a marked name that isn't grey is
-- marked
pub record IsBetween (roots : List ℕ) (target : ℕ → ℕ → Option ℕ) (m : Marking) : Type 0 where
  pub rooted : (x : ℕ) → IsTrue (has_name roots x) → IsTrue (is_marked m x)
  pub reached : (x : ℕ) → IsTrue (is_marked m x) → IsReached roots target x
  pub closed : (x i y : ℕ) → IsTrue (has_name (names_in m.scanned) x) → target x i ≡ Some y → IsTrue (is_marked m y)

-- 1 is the root, field 0 of 1 refers to 2, and field 3 of 2 to 1
a_target : ℕ → ℕ → Option ℕ
a_target x i = if x == 1 && i == 0 then Some 2 else (if x == 2 && i == 3 then Some 1 else None)

the_root : IsReached (1 ∷ []) a_target 1
the_root = Root refl

by_way_of_the_root : IsReached (1 ∷ []) a_target 2
unfolding a_target
by_way_of_the_root = InField 1 0 the_root refl
