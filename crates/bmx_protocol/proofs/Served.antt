-- The names that can be served at a node can be listed: a node knows finitely many.
use Rattle.std.proofs.Common.{◌≡◌, ℕ, zero, suc, ◌+◌, ◌<◌, ◌≤◌, arith, refl, ap, sym, subst, ◌∙◌, Bool, true, false, cond, List, [], ◌∷◌, length}
use Rattle.std.specs.Prelude.{◌==◌, max, nat_lt, ◌&&◌, Option, Some, None, is_some, find, Contains, slice_index}
use Rattle.std.specs.Option.{option_map, option_map_or}
use Rattle.std.specs.List.Sorted.{IsStrictlyIncreasing}
use Rattle.std.proofs.lemmas.Bool.{eqb-true, eqb-false}
use Rattle.bmx_types.specs.declared.openings.Birth.{Birth}
use Rattle.bmx_types.specs.Updates.{put}
use Rattle.bmx_token.specs.Transitions.{can_serve}
use Rattle.bmx_protocol.specs.declared.events.Event.{Event}
use Rattle.bmx_protocol.specs.Nodes.{Setting, NodeState, Known, birth_of, is_anchor, owned_birth, heard_birth, first_known}
use Rattle.bmx_protocol.specs.Changes.{Change, Sets, Makes, Knows, Hears, Gives, Gets, Issues, Takes, heard_of, after_change, after_changes}
use Rattle.bmx_protocol.specs.Steps.{Node, first_node, rule, changes_of}
use Rattle.bmx_protocol.specs.Histories.{Replays}
use Rattle.bmx_protocol.specs.Runs.Programs.{CanServe}
use Rattle.bmx_protocol.specs.Laws.{ServedAreListed}

-- ## a node knows finitely many names

-- each name that is known is below a number
abbrev Bounded : (ℕ → Option Known) → ℕ → Type 0
Bounded known bound = (name : ℕ) → is_some (known name) ≡ true → name < bound

put_bounded : (known : ℕ → Option Known) (bound name : ℕ) (k : Known) → Bounded known bound → Bounded (put known name (Some k)) (max bound (name + 1))
put_bounded known bound name k h y some = by_test (name == y) (eqb-true name y) some
  where
    by_test : (b : Bool) → (b ≡ true → name ≡ y) → is_some (cond b (Some k) (known y)) ≡ true → y < max bound (name + 1)
    by_test true q some = omega (arith, q refl)
    by_test false q some = omega (arith, h y some)

change_bounded : (s : NodeState) (c : Change) (bound : ℕ) → Bounded s.known bound → (more : ℕ) × Bounded (after_change s c).known more
change_bounded s (Sets register v) bound h = (bound, h)
change_bounded s Makes bound h = (bound, h)
change_bounded s (Knows name k) bound h = (max bound (name + 1), put_bounded s.known bound name k h)
change_bounded s (Hears from info) bound h = by_test (is_some (s.known info.name))
  where
    by_test : (b : Bool) → (more : ℕ) × Bounded (cond b s.known (put s.known info.name (Some (heard_of from info)))) more
    by_test true = (bound, h)
    by_test false = (max bound (info.name + 1), put_bounded s.known bound info.name (heard_of from info) h)
change_bounded s (Gives name to seq) bound h = (bound, h)
change_bounded s (Gets name from seq) bound h = (bound, h)
change_bounded s (Issues to) bound h = (bound, h)
change_bounded s (Takes from) bound h = (bound, h)

changes_bounded : (changes : List Change) (s : NodeState) (bound : ℕ) → Bounded s.known bound → (more : ℕ) × Bounded (after_changes s changes).known more
changes_bounded [] s bound h = (bound, h)
changes_bounded (c ∷ changes) s bound h =
    let one : (more : ℕ) × Bounded (after_change s c).known more = change_bounded s c bound h in
    changes_bounded changes (after_change s c) one.0 one.1

births_bounded : (births : List Birth) → (bound : ℕ) × ((name : ℕ) → is_some (find (λ b. b.name == name) births) ≡ true → name < bound)
births_bounded [] = (0, λ name some. absurd cc)
births_bounded (b ∷ births) =
    let rest : (bound : ℕ) × ((name : ℕ) → is_some (find (λ b. b.name == name) births) ≡ true → name < bound) = births_bounded births in
    (max rest.0 (b.name + 1), λ name some. by_test rest.0 name (b.name == name) (eqb-true b.name name) (rest.1 name) some)
  where
    by_test : (bound name : ℕ) (t : Bool) → (t ≡ true → b.name ≡ name) → (is_some (find (λ b. b.name == name) births) ≡ true → name < bound) →
        is_some (cond t (Some b) (find (λ b. b.name == name) births)) ≡ true → name < max bound (b.name + 1)
    by_test bound name true q rest some = omega (arith, q refl)
    by_test bound name false q rest some = omega (arith, rest some)

first_bounded : (st : Setting) (n : ℕ) → (bound : ℕ) × Bounded (first_known st n) bound
first_bounded st n =
    let all : (bound : ℕ) × ((name : ℕ) → is_some (birth_of st name) ≡ true → name < bound) = births_bounded st.births in
    (all.0, λ name some. all.1 name (known_born name (n == 0) (nat_lt n st.nodes && is_anchor st name) some))
  where
    mapped : (f : Birth → Known) (b : Option Birth) → is_some (option_map f b) ≡ true → is_some b ≡ true
    mapped f None some = absurd cc
    mapped f (Some b) some = refl

    known_born : (name : ℕ) (a b : Bool) → is_some (cond a (option_map owned_birth (birth_of st name)) (cond b (option_map heard_birth (birth_of st name)) None)) ≡ true →
        is_some (birth_of st name) ≡ true
    known_born name true b some = mapped owned_birth (birth_of st name) some
    known_born name false true some = mapped heard_birth (birth_of st name) some
    known_born name false false some = absurd cc

abbrev EachBounded : (ℕ → Node) → Type 0
EachBounded nodes = (n : ℕ) → (bound : ℕ) × Bounded (nodes n).state.known bound

replay_bounded : (st : Setting) (events : List Event) (start last : ℕ → Node) → Replays st start events last → EachBounded start → EachBounded last
replay_bounded st [] start last h all = subst EachBounded h all
replay_bounded st (e ∷ events) start last h all = replay_bounded st events (put start e.node h.0) last h.2 (λ n. at n (e.node == n))
  where
    here : (bound : ℕ) × Bounded h.0.state.known bound
    here =
        let t : (more : ℕ) × Bounded (after_changes (start e.node).state (changes_of e.stamp (start e.node).state (rule st e.node (start e.node).state h.1.told e.input))).known more =
        changes_bounded (changes_of e.stamp (start e.node).state (rule st e.node (start e.node).state h.1.told e.input)) (start e.node).state (all e.node).0 (all e.node).1 in
        (t.0, subst (λ (s : NodeState). Bounded s.known t.0) (sym h.1.state) t.1)

    at : (n : ℕ) (b : Bool) → (bound : ℕ) × Bounded (cond b h.0 (start n)).state.known bound
    at n true = here
    at n false = all n

-- ## the numbers below one that pass a test

passing : (ℕ → Bool) → ℕ → ℕ → List ℕ
passing test k zero = []
passing test k (suc n) = cond (test k) (k ∷ passing test (k + 1) n) (passing test (k + 1) n)

-- each is from k on
From : ℕ → List ℕ → Type 0
From k xs = (i : ℕ) → i < length xs → k ≤ slice_index xs i

rising_cons : (x : ℕ) (xs : List ℕ) → From (x + 1) xs → IsStrictlyIncreasing xs → IsStrictlyIncreasing (x ∷ xs)
unfolding From
rising_cons x xs from rising zero within =
    let e : suc zero ≡ zero + 1 = omega arith in
    subst (λ (j : ℕ). x < slice_index (x ∷ xs) j) e (omega (arith, from 0 (omega (arith, within))))
rising_cons x xs from rising (suc k) within =
    let e : suc (k + 1) ≡ suc k + 1 = omega arith in
    subst (λ (j : ℕ). slice_index xs k < slice_index (x ∷ xs) j) e (rising k (omega (arith, within)))

from_more : (k : ℕ) (xs : List ℕ) → From (k + 1) xs → From k xs
unfolding From
from_more k xs from i within = omega (arith, from i within)

from_cons : (k : ℕ) (xs : List ℕ) → From (k + 1) xs → From k (k ∷ xs)
unfolding From
from_cons k xs from zero within = omega arith
from_cons k xs from (suc i) within = omega (arith, from i (omega (arith, within)))

passing_from : (test : ℕ → Bool) (k n : ℕ) → From k (passing test k n)
unfolding passing From
passing_from test k zero = λ i within. absurd (omega (arith, within))
passing_from test k (suc n) = by_test (test k) (passing_from test (k + 1) n)
  where
    by_test : (b : Bool) → From (k + 1) (passing test (k + 1) n) → From k (cond b (k ∷ passing test (k + 1) n) (passing test (k + 1) n))
    by_test true h = from_cons k (passing test (k + 1) n) h
    by_test false h = from_more k (passing test (k + 1) n) h

passing_rises : (test : ℕ → Bool) (k n : ℕ) → IsStrictlyIncreasing (passing test k n)
unfolding passing
passing_rises test k zero = λ i within. absurd (omega (arith, within))
passing_rises test k (suc n) = by_test (test k) (passing_rises test (k + 1) n)
  where
    by_test : (b : Bool) → IsStrictlyIncreasing (passing test (k + 1) n) → IsStrictlyIncreasing (cond b (k ∷ passing test (k + 1) n) (passing test (k + 1) n))
    by_test true h = rising_cons k (passing test (k + 1) n) (passing_from test (k + 1) n) h
    by_test false h = h

there_later : (x : ℕ) (xs : List ℕ) (y : ℕ) → Contains xs y → Contains (x ∷ xs) y
there_later x xs y (i, below, is) = (suc i, omega (arith, below), is)

passes : (test : ℕ → Bool) (k n y : ℕ) → Contains (passing test k n) y → test y ≡ true
unfolding passing
passes test k zero y (i, below, is) = absurd (omega (arith, below))
passes test k (suc n) y c = by_test (test k) refl c (passes test (k + 1) n y)
  where
    by_test : (b : Bool) → test k ≡ b → Contains (cond b (k ∷ passing test (k + 1) n) (passing test (k + 1) n)) y → (Contains (passing test (k + 1) n) y → test y ≡ true) → test y ≡ true
    by_test true e (zero, below, is) rest = ap test (sym is) ∙ e
    by_test true e (suc i, below, is) rest = rest (i, omega (arith, below), is)
    by_test false e c rest = rest c

listed : (test : ℕ → Bool) (k n y : ℕ) → k ≤ y → y < k + n → test y ≡ true → Contains (passing test k n) y
unfolding passing
listed test k zero y above below pass = absurd (omega (arith, above, below))
listed test k (suc n) y above below pass = by_place (k == y) (eqb-true k y) (apart k y) (λ more. listed test (k + 1) n y more (omega (arith, below)) pass)
  where
    apart : (a b : ℕ) → (a == b) ≡ false → a ≡ b → ⊥
    apart a b = eqb-false a b

    first : (b : Bool) → test k ≡ b → k ≡ y → Contains (cond b (k ∷ passing test (k + 1) n) (passing test (k + 1) n)) y
    first true e is = (0, omega arith, is)
    first false e is = (let both : false ≡ true = sym e ∙ ap test is ∙ pass in absurd cc)

    later : (b : Bool) → Contains (passing test (k + 1) n) y → Contains (cond b (k ∷ passing test (k + 1) n) (passing test (k + 1) n)) y
    later true c = there_later k (passing test (k + 1) n) y c
    later false c = c

    by_place : (b : Bool) → (b ≡ true → k ≡ y) → (b ≡ false → k ≡ y → ⊥) → (k + 1 ≤ y → Contains (passing test (k + 1) n) y) →
        Contains (cond (test k) (k ∷ passing test (k + 1) n) (passing test (k + 1) n)) y
    by_place true q d rest = first (test k) refl (q refl)
    by_place false q d rest = later (test k) (rest (more (k == y)))
      where
        more : Bool → k + 1 ≤ y
        more b = grind (arith, d refl)

-- ## the law

pub served_are_listed : ServedAreListed
served_are_listed st history nodes leads n = (
  passing test 0 bound.0,
  record { rising = passing_rises test 0 bound.0; all = λ name. (passes test 0 bound.0 name, λ serves. listed test 0 bound.0 name (omega arith) (below name serves) serves) },
)
  where
    bound : (b : ℕ) × Bounded (nodes n).state.known b
    bound = replay_bounded st history (first_node st) nodes leads (λ m. first_bounded st m) n

    test : ℕ → Bool
    test name = option_map_or (λ k. can_serve n k.part) ((nodes n).state.known name) false

    below : (name : ℕ) → CanServe n (nodes n).state name → name < 0 + bound.0
    below name serves = omega (arith, bound.1 name (by_known ((nodes n).state.known name) serves))
      where
        by_known : (k : Option Known) → option_map_or (λ (j : Known). can_serve n j.part) k false ≡ true → is_some k ≡ true
        by_known None serves = absurd cc
        by_known (Some k) serves = refl
