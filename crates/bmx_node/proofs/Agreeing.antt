-- Objects and tokens still agree after one name changes.
use Rattle.std.proofs.Math.Path.{fun_ext}
use Rattle.std.proofs.lemmas.Bool.{cases_eq, false≢true}
use Rattle.bmx_node.proofs.Puts.{put_here, put_apart}
use Rattle.bmx_node.proofs.Fitting.{fit_owner}
use Rattle.std.proofs.Common.{refl, arith, ◌≡◌, ℕ, ◌+◌, ◌<◌, Bool, true, false, Option, Some, None, is_some, IsSome, unwrap_or, sym, ◌∙◌, ap, subst, ⊎_elim}
use Rattle.std.specs.Option.{option_map, option_map_or}
use Rattle.bmx_types.specs.Updates.{put}
use Rattle.bmx_types.specs.Words.{name_word, anchor_of}
use Rattle.bmx_token.specs.declared.parts.Part.{Part}
use Rattle.bmx_token.specs.declared.parts.Role.TheVariants.{Owner}
use Rattle.bmx_token.specs.Tokens.{owner_part}
use Rattle.bmx_memory.specs.Shown.{Object, known_with, known_as}
use Rattle.bmx_node.specs.Inside.Keeping.{IsFit, Agree}

-- two that are the same
pub some_same : (q p : Part) → Some q ≡ Some p → q ≡ p
some_same q p e = ap (λ (x : Option Part). unwrap_or x q) e

pub some_none : (o : Object) → Some o ≡ None → ⊥
some_none o e = false≢true (sym (ap (λ (x : Option Object). is_some x) e))

-- the object and the token of a name that had both change
pub agree_turned : (me made bunches : ℕ) (object : ℕ → Option Object) (part : ℕ → Option Part) (name : ℕ) (o o' : Object) (q : Part) →
    Agree me made bunches object part → object name ≡ Some o → IsFit q → (q.role ≡ Owner → is_some o'.copy ≡ true) →
    Agree me made bunches (put object name (Some o')) (put part name (Some q))
agree_turned me made bunches object part name o o' q old had fit owner = record {
  same = λ x. ⊎_elim
      (λ (e : name ≡ x). ap is_some (put_here part name x (Some q) e) ∙ sym (ap is_some (put_here object name x (Some o') e)))
      (λ (ne : name ≡ x → ⊥). ap is_some (put_apart part name x (Some q) ne) ∙ old.same x ∙ sym (ap is_some (put_apart object name x (Some o') ne)))
      (cases_eq name x);
  fit = λ x p is. ⊎_elim
      (λ (e : name ≡ x). let same : q ≡ p = some_same q p (sym (put_here part name x (Some q) e) ∙ is) in subst IsFit same fit)
      (λ (ne : name ≡ x → ⊥). old.fit x p (sym (put_apart part name x (Some q) ne) ∙ is))
      (cases_eq name x);
  owners = λ x p is own. ⊎_elim
      (λ (e : name ≡ x).
      let same : q ≡ p = some_same q p (sym (put_here part name x (Some q) e) ∙ is) in
      ap has (put_here object name x (Some o') e) ∙ owner (ap (λ (r : Part). r.role) same ∙ own))
      (λ (ne : name ≡ x → ⊥). ap has (put_apart object name x (Some o') ne) ∙ old.owners x p (sym (put_apart part name x (Some q) ne) ∙ is) own)
      (cases_eq name x);
  fresh = λ count above below. ⊎_elim
      (λ (e : name ≡ name_word me count). absurd (some_none o (sym had ∙ ap object e ∙ old.fresh count above below)))
      (λ (ne : name ≡ name_word me count → ⊥). put_apart object name (name_word me count) (Some o') ne ∙ old.fresh count above below)
      (cases_eq name (name_word me count));
  anchors = λ bunch below. ⊎_elim
      (λ (e : name ≡ anchor_of bunch). subst IsSome (sym (put_here object name (anchor_of bunch) (Some o') e)) refl)
      (λ (ne : name ≡ anchor_of bunch → ⊥). subst IsSome (sym (put_apart object name (anchor_of bunch) (Some o') ne)) (old.anchors bunch below))
      (cases_eq name (anchor_of bunch));
}
  where
    has : Option Object → Bool
    has x = option_map_or (λ (y : Object). is_some y.copy) x false

-- a name that had nothing, the next of its maker, has an object and a token that owns it
pub agree_made : (me made bunches : ℕ) (object : ℕ → Option Object) (part : ℕ → Option Part) (name : ℕ) (o : Object) →
    Agree me made bunches object part → name ≡ name_word me (made + 1) → is_some o.copy ≡ true →
    Agree me (made + 1) bunches (put object name (Some o)) (put part name (Some owner_part))
agree_made me made bunches object part name o old named copied = record {
  same = λ x. ⊎_elim
      (λ (e : name ≡ x). ap is_some (put_here part name x (Some owner_part) e) ∙ sym (ap is_some (put_here object name x (Some o) e)))
      (λ (ne : name ≡ x → ⊥). ap is_some (put_apart part name x (Some owner_part) ne) ∙ old.same x ∙ sym (ap is_some (put_apart object name x (Some o) ne)))
      (cases_eq name x);
  fit = λ x p is. ⊎_elim
      (λ (e : name ≡ x). subst IsFit (some_same owner_part p (sym (put_here part name x (Some owner_part) e) ∙ is)) fit_owner)
      (λ (ne : name ≡ x → ⊥). old.fit x p (sym (put_apart part name x (Some owner_part) ne) ∙ is))
      (cases_eq name x);
  owners = λ x p is own. ⊎_elim
      (λ (e : name ≡ x). ap has (put_here object name x (Some o) e) ∙ copied)
      (λ (ne : name ≡ x → ⊥). ap has (put_apart object name x (Some o) ne) ∙ old.owners x p (sym (put_apart part name x (Some owner_part) ne) ∙ is) own)
      (cases_eq name x);
  fresh = λ count above below. ⊎_elim
      (λ (e : name ≡ name_word me count). absurd (next_once me made count above (sym named ∙ e)))
      (λ (ne : name ≡ name_word me count → ⊥). put_apart object name (name_word me count) (Some o) ne ∙ old.fresh count (before made count above) below)
      (cases_eq name (name_word me count));
  anchors = λ bunch below. ⊎_elim
      (λ (e : name ≡ anchor_of bunch). subst IsSome (sym (put_here object name (anchor_of bunch) (Some o) e)) refl)
      (λ (ne : name ≡ anchor_of bunch → ⊥). subst IsSome (sym (put_apart object name (anchor_of bunch) (Some o) ne)) (old.anchors bunch below))
      (cases_eq name (anchor_of bunch));
}
  where
    has : Option Object → Bool
    has x = option_map_or (λ (y : Object). is_some y.copy) x false

    next_once : (me made count : ℕ) → made + 1 < count → name_word me (made + 1) ≡ name_word me count → ⊥
    next_once me made count above e = omega arith

    before : (made count : ℕ) → made + 1 < count → made < count
    before made count above = omega arith

-- what is known after it
pub known_turned : (object : ℕ → Option Object) (part : ℕ → Option Part) (name : ℕ) (o' : Object) (q : Part) →
    known_with (put object name (Some o')) (λ x. unwrap_or (put part name (Some q) x) owner_part)
    ≡ put (known_with object (λ x. unwrap_or (part x) owner_part)) name (Some (known_as q o'))
known_turned object part name o' q = fun_ext (λ x. ⊎_elim
    (λ (e : name ≡ x).
    ap (λ (y : Option Object). option_map (known_as (unwrap_or (put part name (Some q) x) owner_part)) y) (put_here object name x (Some o') e)
    ∙ ap (λ (y : Option Part). Some (known_as (unwrap_or y owner_part) o')) (put_here part name x (Some q) e)
    ∙ sym (put_here (known_with object (λ x. unwrap_or (part x) owner_part)) name x (Some (known_as q o')) e))
    (λ (ne : name ≡ x → ⊥).
    ap (λ (y : Option Object). option_map (known_as (unwrap_or (put part name (Some q) x) owner_part)) y) (put_apart object name x (Some o') ne)
    ∙ ap (λ (y : Option Part). option_map (known_as (unwrap_or y owner_part)) (object x)) (put_apart part name x (Some q) ne)
    ∙ sym (put_apart (known_with object (λ x. unwrap_or (part x) owner_part)) name x (Some (known_as q o')) ne))
    (cases_eq name x))
