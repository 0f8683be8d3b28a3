-- When a graph is in a state, and what the parts of a graph show after a change.
use Rattle.std.proofs.Common.{◌≡◌, ℕ, ◌+◌, ◌*◌, ◌<◌, ◌≤◌, Bool, true, false, ◌&&◌, cond, eqb, ltb, List, [], ◌∷◌, length, Option, Some, None, IsSome, IfSome, is_some, Result, Ok, Err, OnErr, slice_get, slice_index, slice_index_or, slice_set, get_or, unwrap_or, Bor, MutBor, replicate, refl, subst, sym, ap, ◌∙◌, ⊎_elim, arith, zero, suc}
use Rattle.std.proofs.Math.Path.{fun_ext}
use Rattle.std.proofs.lemmas.Bool.{cases_Bool, cases_eq, cases_lt, eqb-true, eq-eqb, ne_eqb, lt-ltb, le-ltb, ltb-true, ltb-false, cond-true, cond-false, and_from, and_parts, false_from_ne_true, false≢true}
use Rattle.std.proofs.lemmas.Option.{slice_get_past, slice_get-get_or}
use Rattle.std.proofs.lemmas.List.{get_or-set_same, get_or-set_other}
use Rattle.std.specs.Option.{option_map, option_copied, option_copied_mut}
use Rattle.std.specs.HashMap.{get}
use Rattle.bmx_types.specs.Words.{maker, count_of}
use Rattle.bmx_types.specs.declared.values.Val.{Val}
use Rattle.bmx_types.specs.declared.values.Val.TheVariants as val
use Rattle.bmx_graph.specs.declared.graphs.Graph.{Graph}
use Rattle.bmx_graph.specs.State.{State}
use Rattle.bmx_types.specs.Updates.{put, put_at}
use Rattle.bmx_graph.specs.Step.{with_register, with_new, next_name}
use Rattle.bmx_graph.specs.Graphs.{state_of, same_name, same_hold, register_in}

-- a graph is in the state that agrees with it at each name, register, hold and count
pub state_of-from : (g : Graph) (s : State)
    → ((q : ℕ) → option_map (λ fields. fields.items) (get same_name g.objects q) ≡ s.object q)
    → ((n r : ℕ) → register_in g.registers n r ≡ s.register n r)
    → ((n q : ℕ) → get same_hold g.held (n, q) ≡ s.held n q)
    → ((n : ℕ) → slice_index g.made n ≡ s.made n)
    → state_of g ≡ s
unfolding state_of
state_of-from g s objects registers held made = λ i. record {
  object = fun_ext objects i;
  register = fun_ext (λ n. fun_ext (registers n)) i;
  held = fun_ext (λ n. fun_ext (held n)) i;
  made = fun_ext made i;
}

-- a fact that holds in any case holds where a call failed
pub OnErr-from : {T E P : Type 0} (r : Result T E) → P → OnErr r P
OnErr-from (Ok x) h = tt
OnErr-from (Err e) h = h

pub put_at-is : {A : Type 0} (f : ℕ → ℕ → A) (n x : ℕ) (v : A) (m y : ℕ) → put_at f n x v m y ≡ cond (eqb n m) (cond (eqb x y) v (f m y)) (f m y)
put_at-is f n x v m y =
    ⊎_elim
    (λ (e : eqb n m ≡ true). rw e (ap (λ k. cond (eqb x y) v (f k y)) (eqb-true n m e)))
    (λ (e : eqb n m ≡ false). rw e refl)
    (cases_Bool (eqb n m))

-- names are compared by their words
pub same_name-is : (x y : ℕ) → same_name x y ≡ eqb x y
same_name-is x y = refl

-- one hold of a map by pairs changes
pub held_put : {A : Type 0} (f : ℕ → ℕ → A) (n x : ℕ) (v : A) (m y : ℕ) → cond (eqb n m && same_name x y) v (f m y) ≡ put_at f n x v m y
held_put f n x v m y =
    rw (same_name-is x y) (
    ⊎_elim
    (λ (e : eqb n m ≡ true). ap (λ b. cond (b && eqb x y) v (f m y)) e ∙ sym (put_at-is f n x v m y ∙ cond-true (eqb n m) _ _ e))
    (λ (e : eqb n m ≡ false). ap (λ b. cond (b && eqb x y) v (f m y)) e ∙ sym (put_at-is f n x v m y ∙ cond-false (eqb n m) _ _ e))
    (cases_Bool (eqb n m))
    )

pub option_map-cond : {A B : Type 0} (f : A → B) (b : Bool) (x : A) (o : Option A) → option_map f (cond b (Some x) o) ≡ cond b (Some (f x)) (option_map f o)
option_map-cond f true x o = refl
option_map-cond f false x o = refl

-- one number of a list changes
pub get_or-set_put : {A : Type 0} (xs : List A) (n : ℕ) (v d : A) (m : ℕ) → n < length xs → get_or (slice_set xs n v) m d ≡ cond (eqb n m) v (get_or xs m d)
get_or-set_put xs n v d m there =
    ⊎_elim
    (λ (e : n ≡ m). ap (λ k. get_or (slice_set xs n v) k d) (sym e) ∙ get_or-set_same xs n v d there ∙ sym (cond-true (eqb n m) v (get_or xs m d) (eq-eqb n m e)))
    (λ (ne : n ≡ m → ⊥). get_or-set_other xs n m v d (λ e. ne (sym e)) ∙ sym (cond-false (eqb n m) v (get_or xs m d) (ne_eqb n m ne)))
    (cases_eq n m)

-- one object of a map changes
pub objects-put : {V : Type 0} (items : V → List Val) (f g : ℕ → Option V) (x : ℕ) (v : V)
    → ((q : ℕ) → g q ≡ cond (same_name x q) (Some v) (f q))
    → (q : ℕ) → option_map items (g q) ≡ put (λ k. option_map items (f k)) x (Some (items v)) q
objects-put items f g x v h q = ap (option_map items) (h q) ∙ option_map-cond items (same_name x q) v (f q) ∙ ap (λ b. cond b (Some (items v)) (option_map items (f q))) (same_name-is x q)

pub get_or_default-any : {A : Type 0} (xs : List A) (i : ℕ) (d e : A) → i < length xs → get_or xs i d ≡ get_or xs i e
get_or_default-any [] i d e h = absurd (omega arith)
get_or_default-any (x ∷ xs) zero d e h = refl
get_or_default-any (x ∷ xs) (suc i) d e h = get_or_default-any xs i d e (omega arith)

same_cond : {A : Type 0} (b : Bool) (x : A) → cond b x x ≡ x
same_cond true x = refl
same_cond false x = refl

-- two registers have one place only where they are one
same_place : (n x m y : ℕ) (v w : Val) → x < 16 → y < 16 → cond (eqb (16 * n + x) (16 * m + y)) v w ≡ cond (eqb n m) (cond (eqb x y) v w) w
same_place n x m y v w x_small y_small =
    ⊎_elim
    (λ (e : n ≡ m). ⊎_elim
    (λ (f : x ≡ y). let same : 16 * n + x ≡ 16 * m + y = omega arith in rw (eq-eqb (16 * n + x) (16 * m + y) same, eq-eqb n m e, eq-eqb x y f) refl)
    (λ (nf : x ≡ y → ⊥). rw (ne_eqb (16 * n + x) (16 * m + y) (λ h. nf (omega arith)), eq-eqb n m e, ne_eqb x y nf) refl)
    (cases_eq x y))
    (λ (ne : n ≡ m → ⊥). rw (ne_eqb (16 * n + x) (16 * m + y) (λ h. ne (omega arith)), ne_eqb n m ne) refl)
    (cases_eq n m)

-- a register that is there
pub register_in-there : (table : List Val) (n r : ℕ) (d : Val) → r < 16 → 16 * n + r < length table → slice_index_or table (16 * n + r) d ≡ register_in table n r
register_in-there table n r d small there =
    get_or_default-any table (16 * n + r) d val.Null there ∙ sym (cond-true (ltb r 16) (slice_index_or table (16 * n + r) val.Null) val.Null (lt-ltb r 16 small))

-- one register changes
pub register_in-set : (table : List Val) (n x : ℕ) (v : Val) → x < 16 → 16 * n + x < length table → (m y : ℕ) → register_in (slice_set table (16 * n + x) v) m y ≡ put_at (register_in table) n x v m y
register_in-set table n x v small there m y =
    rw put_at-is (
    ⊎_elim
    (λ (y_small : y < 16). rw (lt-ltb y 16 y_small, get_or-set_put table (16 * n + x) v val.Null (16 * m + y) there) (same_place n x m y v (slice_index_or table (16 * m + y) val.Null) small y_small))
    (λ (y_large : 16 ≤ y). rw (le-ltb y 16 y_large, ne_eqb x y (omega arith)) (sym (same_cond (eqb n m) val.Null)))
    (cases_lt y 16)
    )

-- what stands in a field that is there
pub fields-found : {V : Type 0} (items : V → List Val) (o : Option V) (index : ℕ) → IsSome (slice_get (unwrap_or (option_map items o) []) index) → IsSome o
fields-found items None index h = h
fields-found items (Some v) index h = refl

-- a map's own value, where what it lends is there
pub copied-found : {V : Type 0} (r : Option (MutBor V)) (o : Option V) → option_copied_mut r ≡ o → IsSome o → IsSome r
copied-found None o e h = subst IsSome (sym e) h
copied-found (Some x) o e h = refl

pub slice_get-within : {A : Type 0} (xs : List A) (i : ℕ) → IsSome (slice_get xs i) → i < length xs
slice_get-within [] i h = absurd (false≢true h)
slice_get-within (x ∷ xs) zero h = omega arith
slice_get-within (x ∷ xs) (suc i) h = let more = slice_get-within xs i h in omega arith

-- a field that stands in the object of a name is within that object's fields
pub field-within : {V : Type 0} (items : V → List Val) (o : Option V) (v : V) (index : ℕ) → Some v ≡ o
    → IsSome (slice_get (unwrap_or (option_map items o) []) index) → index < length (items v)
field-within items o v index had there =
    slice_get-within (items v) index (subst (λ x. IsSome (slice_get (unwrap_or (option_map items x) []) index)) (sym had) there)

-- what a new object changes, in parts
pub with_new-from : (s : State) (n register size place name count : ℕ) (fields : List Val)
    → place ≡ n → name ≡ next_name s n → count ≡ s.made n + 1 → fields ≡ replicate size val.Null
    → with_register (record { object = put s.object name (Some fields); register = s.register; held = s.held; made = put s.made place count }) n register (val.Ref name) ≡ with_new s n register size
with_new-from s n register size place name count fields at named counted blank = λ i. record {
  object = put s.object (named i) (Some (blank i));
  register = put_at s.register n register (val.Ref (named i));
  held = s.held;
  made = put s.made (at i) (counted i);
}

pub get_or-same : {A : Type 0} (k i : ℕ) (a : A) → get_or (replicate k a) i a ≡ a
get_or-same zero i a = refl
get_or-same (suc k) zero a = refl
get_or-same (suc k) (suc i) a = get_or-same k i a

-- all registers null
pub register_in-null : (k n r : ℕ) → register_in (replicate k val.Null) n r ≡ val.Null
register_in-null k n r = ap (λ v. cond (ltb r 16) v val.Null) (get_or-same k (16 * n + r) val.Null) ∙ same_cond (ltb r 16) val.Null

-- names of node 0 alone
pub first_counts-is : (k m n : ℕ) → slice_index (k ∷ replicate m 0) n ≡ cond (eqb n 0) k 0
first_counts-is k m zero = refl
first_counts-is k m (suc n) = get_or-same m n 0 ∙ sym (cond-false (eqb (suc n) 0) k 0 (ne_eqb (suc n) 0 (omega arith)))

-- what `get` and `copied` of a slice give
pub copied-get : {A : Type 0} (xs : List A) (i : ℕ) (r : Option (Bor A)) → is_some r ≡ ltb i (length xs) → IfSome r (λ x. x.now ≡ slice_index_or xs i x.now)
    → option_copied r ≡ slice_get xs i
copied-get xs i None e h = sym (slice_get_past xs i (ltb-false i (length xs) (sym e)))
copied-get xs i (Some x) e h = ap Some h ∙ sym (slice_get-get_or xs i x.now (ltb-true i (length xs) (sym e)))
