-- The tokens of names, as their map shows them.
use Rattle.std.proofs.Common.{◌≡◌, ℕ, Bool, true, false, ◌&&◌, cond, eqb, List, [], ◌∷◌, Option, Some, None, IsSome, IfSome, IfNone, Bor, Result, Ok, Err, OnErr, unwrap_or, refl, sym, ap, ◌∙◌, subst, ⊎_elim, arith}
use Rattle.std.proofs.Math.Path.{fun_ext}
use Rattle.std.proofs.lemmas.Bool.{cases_eq, eqb-true, eq-eqb, ne_eqb, and_from, and_parts, false_from_ne_true}
use Rattle.std.proofs.lemmas.Bool.{false≢true}
use Rattle.std.specs.Map.{lookup, set_value}
use Rattle.std.specs.Option.{option_copied}
use Rattle.indexmap.specs.IndexMap.{IndexMap, WritesThrough, spare}
use Rattle.bmx_types.specs.Words.{maker, count_of}
use Rattle.bmx_types.specs.Updates.{put}
use Rattle.bmx_token.specs.declared.parts.Part.{Part}
use Rattle.bmx_token.specs.Tokens.{owner_part}
use Rattle.bmx_tokens.specs.Tables.{Table, part_in, part_of, part_at, Becomes}

-- two names are the same, as the keys of a map are compared
abbrev pub same_name : ℕ → ℕ → Bool
same_name x y = eqb x y

-- which is by their words
pub same_name-is : (x y : ℕ) → same_name x y ≡ eqb x y
same_name-is x y = refl

pub part_in-lookup : (es : List (ℕ × Part)) (q : ℕ) → lookup (same_name q) es ≡ part_in es q
part_in-lookup [] q = refl
part_in-lookup (e ∷ es) q = ap (λ b. cond b (Some e.1) (lookup (same_name q) es)) (same_name-is q e.0) ∙ ap (λ (o : Option Part). cond (eqb q e.0) (Some e.1) o) (part_in-lookup es q)

-- the map after an update at a name
pub part_in-update : (old new : List (ℕ × Part)) (k : ℕ) (w : Option Part) →
    ((q : ℕ) → lookup (same_name q) new ≡ cond (same_name k q) w (lookup (same_name q) old)) → part_in new ≡ put (part_in old) k w
part_in-update old new k w h = fun_ext (λ q.
    sym (part_in-lookup new q) ∙ h q
    ∙ ap (λ b. cond b w (lookup (same_name q) old)) (same_name-is k q)
    ∙ ap (λ (o : Option Part). cond (eqb k q) w o) (part_in-lookup old q))

-- a value that is written again leaves the map as it was
pub written_again : (es : List (ℕ × Part)) (k : ℕ) (p : Part) → Some p ≡ lookup (same_name k) es → set_value (same_name k) es p ≡ es
written_again [] k p had = refl
written_again (e ∷ es) k p had = by (same_name k e.0) had (λ later. written_again es k p later)
  where
    by : (b : Bool) → Some p ≡ cond b (Some e.1) (lookup (same_name k) es) → (Some p ≡ lookup (same_name k) es → set_value (same_name k) es p ≡ es) →
        cond b ((e.0, p) ∷ es) (e ∷ set_value (same_name k) es p) ≡ e ∷ es
    by true is rest = let same : p ≡ e.1 = cc in ap (λ (q : Part). (e.0, q) ∷ es) same
    by false is rest = ap (λ (l : List (ℕ × Part)). e ∷ l) (rest is)

-- what a look-up says
pub found : (es : List (ℕ × Part)) (k : ℕ) (o : Option (Bor Part)) → option_copied o ≡ lookup (same_name k) es → IfSome o (λ p. part_in es k ≡ Some p.now)
found es k None h = tt
found es k (Some p) h = sym (part_in-lookup es k) ∙ sym h

pub not_found : (es : List (ℕ × Part)) (k : ℕ) (o : Option (Bor Part)) → option_copied o ≡ lookup (same_name k) es → IfNone o (part_in es k ≡ None)
not_found es k None h = sym (part_in-lookup es k) ∙ sym h
not_found es k (Some p) h = tt

pub there_is_one : (es : List (ℕ × Part)) (k : ℕ) → None ≡ lookup (same_name k) es → IsSome (part_in es k) → ⊥
there_is_one es k none there = false≢true (subst IsSome (sym (part_in-lookup es k) ∙ sym none) there)

pub part_at-found : (view old : Table) (k : ℕ) (p : Part) → view ≡ old → Some p ≡ lookup (same_name k) view.parts → part_at old k ≡ p
part_at-found view old k p same had = subst (λ t. part_at t k ≡ p) same (ap (λ (o : Option Part). unwrap_or o owner_part) (sym (part_in-lookup view.parts k) ∙ sym had))

-- what is written through a token that was lent
module _ {S : Type 0} (m n : IndexMap ℕ Part S) (k : ℕ) (p w : Part) (had : Some p ≡ lookup (same_name k) m.entries) (wrote : WritesThrough same_name (same_name k) m w n) where
  pub written : part_in n.entries ≡ put (part_in m.entries) k (Some w)
  written = part_in-update m.entries n.entries k (Some w) (wrote.3 (subst IsSome had refl)).0

  pub unwritten : w ≡ p → n.entries ≡ m.entries
  unwritten is = wrote.0 ∙ ap (set_value (same_name k) m.entries) is ∙ written_again m.entries k p had

-- a call of the token of a name is the change that its table shows
pub becomes : (view old new : Table) (k : ℕ) (p w : Part) (change : ℕ → Part → Part) → view ≡ old → Some p ≡ lookup (same_name k) view.parts →
    part_in new.parts ≡ put (part_in view.parts) k (Some w) → new.me ≡ view.me → new.spare ≡ view.spare → w ≡ change view.me p →
    Becomes old new k (change old.me (part_at old k))
becomes view old new k p w change same had part me spare is =
    let made : w ≡ change view.me (part_at view k) = is ∙ ap (change view.me) (sym (part_at-found view view k p refl had)) in
    subst (λ t. Becomes t new k (change t.me (part_at t k))) same
    (record { part = part ∙ ap (λ (q : Part). put (part_in view.parts) k (Some q)) made; me = me; spare = spare })

-- and its answer is that of the token
pub answers : {A : Type 0} (view old : Table) (k : ℕ) (p : Part) (answer : ℕ → Part → A) (a : A) → view ≡ old → Some p ≡ lookup (same_name k) view.parts →
    a ≡ answer view.me p → a ≡ answer old.me (part_at old k)
answers view old k p answer a same had is =
    subst (λ t. a ≡ answer t.me (part_at t k)) same (is ∙ ap (answer view.me) (sym (part_at-found view view k p refl had)))

-- tables are the same where their parts are
pub same_table : (old new : Table) → new.me ≡ old.me → new.parts ≡ old.parts → new.servable ≡ old.servable → new.spare ≡ old.spare → new ≡ old
same_table old new me parts servable spare = λ i. record { me = me i; parts = parts i; servable = servable i; spare = spare i }

pub OnErr-from : {T E P : Type 0} (r : Result T E) → P → OnErr r P
OnErr-from (Ok x) h = tt
OnErr-from (Err e) h = h
