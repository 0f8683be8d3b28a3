-- How objects are gathered, one after the other, and what is gathered at the end.
use Rattle.std.proofs.Common.{◌≡◌, inl, inr, ℕ, zero, suc, ◌-◌, ◌≤◌, ◌<◌, List, [], ◌∷◌, ◌++◌, length, Contains, get_or, Err, Option, Some, None, slice_get, refl, subst, sym, ap, ◌∙◌, ⊎_elim, arith}
use Rattle.std.specs.Prelude.{nat_eq, IsSome, IsTrue}
use Rattle.std.specs.List.{IsDistinct}
use Rattle.std.proofs.lemmas.Bool.{cases_eq, eqb-true, eq-eqb, ne_eqb, le-leb, lt-ltb}
use Rattle.std.proofs.lemmas.Cmp.{nat_eq_equiv}
use Rattle.std.proofs.lemmas.List.{length-append}
use Rattle.std.proofs.lemmas.Map.Keys.{IsDistinct-from_apart}
use Rattle.std.proofs.lemmas.Map.Made.{length-le_from_is_member}
use Rattle.std.proofs.lemmas.Map.Views.{Contains-from_any, list_any-from_Contains}
use Rattle.std.proofs.lemmas.Option.{slice_get_within, slice_get-get_or, slice_get_cases}
use Rattle.bmx_types.specs.declared.values.Val.{Val}
use Rattle.bmx_types.specs.declared.values.Val.TheVariants as val
use Rattle.bmx_image.specs.declared.gathering.GatherError.{GatherError}
use Rattle.bmx_image.specs.declared.gathering.GatherError.TheVariants as error
use Rattle.bmx_image.specs.declared.gathering.Mentions.{Mentions}
use Rattle.bmx_image.specs.declared.images.ImageField.{ImageField}
use Rattle.bmx_image.specs.declared.images.ImageObject.{ImageObject}
use Rattle.bmx_image.specs.Images.{ObjectFits, StandsBehind, IsImage, is_size}
use Rattle.bmx_image.specs.Gathering.{IsReached, Anchor, InField, DoesCross, IsLarge, Tells, TellsAll, IsImageFrom, CanGather, IsGathered}
use Rattle.bmx_image.specs.Inside.Mentions.{Goes, GoesOn, HasGathered, IsMention, IsPlaced}
use Rattle.bmx_image.proofs.Mentioning.{TellsAll-kept, slice_get-push_cases, Contains-at, at-Contains, Contains-one}
use Rattle.bmx_image.proofs.Steps.{fit_more, top_of_more}

-- what is reached is of the anchor's bunch
reached_home : (bunch : ℕ → Option ℕ) (fields : ℕ → List Val) (anchor x : ℕ) → IsReached bunch fields anchor x → bunch x ≡ bunch anchor
reached_home bunch fields anchor x Anchor = refl
reached_home bunch fields anchor x (InField y from there e) = e

-- the anchor alone is mentioned, and nothing gathered
pub gathered_none : (bunch : ℕ → Option ℕ) (fields : ℕ → List Val) (anchor i : ℕ) (old m : Mentions) (objects : List ImageObject) → old.names.items ≡ [] → old.home ≡ bunch anchor → objects ≡ []
    → IsMention old m anchor i → HasGathered bunch fields anchor m objects
gathered_none bunch fields anchor i old m objects none home empty h =
    let names : m.names.items ≡ anchor ∷ [] = elim h.names [
      | inl same ↦ let missing : slice_get m.names.items i ≡ None = ap (λ (xs : List ℕ). slice_get xs i) (same ∙ none) in absurd (cc (missing, h.there))
      | inr last ↦ last.0 ∙ ap (λ (xs : List ℕ). xs ++ anchor ∷ []) none
    ] in
    let one : length m.names.items ≡ 1 = ap length names in
    let P : List ImageObject → Type 0 = λ os. HasGathered bunch fields anchor m os in
    subst P (sym empty) (record {
      placed = h.placed;
      first = ap (λ (xs : List ℕ). slice_get xs 0) names;
      home = h.home ∙ home;
      reached = λ x e. let same : anchor ≡ x = Contains-one anchor x (subst (λ (xs : List ℕ). Contains xs x) names e) in subst (IsReached bunch fields anchor) same Anchor;
      few = omega arith;
      told = λ k o e. absurd (cc);
      fits = λ count le. tt;
      top = omega arith;
    })

-- a size that may be gathered fits
sized : (index size : ℕ) → (index ≡ 0 → size ≡ 32) → size ≤ 32 → IsTrue (is_size index size)
sized index size wide small = elim (cases_eq index 0) [
  | inl e ↦ let none = eq-eqb index 0 e in let all = eq-eqb size 32 (wide e) in rw none all
  | inr ne ↦ let some = ne_eqb index 0 ne in let few = le-leb size 32 small in rw some few
]

told_length : (names : List ℕ) (vs : List Val) (fs : List ImageField) → TellsAll names vs fs → length fs ≡ length vs
told_length names [] [] h = refl
told_length names [] (f ∷ fs) h = absurd h
told_length names (v ∷ vs) [] h = absurd h
told_length names (v ∷ vs) (f ∷ fs) h = ap suc (told_length names vs fs h.1)

-- a name that was mentioned has an object
pub there : (bunch : ℕ → Option ℕ) (fields : ℕ → List Val) (anchor x i : ℕ) (m : Mentions) (objects : List ImageObject) → CanGather bunch fields anchor
    → HasGathered bunch fields anchor m objects → slice_get m.names.items i ≡ Some x → IsSome (bunch x)
there bunch fields anchor x i m objects can h at = subst (λ (b : Option ℕ). IsSome b) (sym (reached_home bunch fields anchor x (h.reached x (at-Contains m.names.items i x at)))) can.there

-- one object more
pub gathered_more : (bunch : ℕ → Option ℕ) (fields : ℕ → List Val) (anchor x : ℕ) (fs : List ImageField) (m new : Mentions) (objects : List ImageObject) → CanGather bunch fields anchor
    → HasGathered bunch fields anchor m objects → slice_get m.names.items (length objects) ≡ Some x → Goes bunch (fields x) fs m new
    → HasGathered bunch fields anchor new (objects ++ record { fields = fs } ∷ [])
gathered_more bunch fields anchor x fs m new objects can h at to =
    let len : length fs ≡ length (fields x) = told_length new.names.items (fields x) fs to.tells in
    let o : ImageObject = record { fields = fs } in
    let old_names = m.names.items in
    let names = new.names.items in
    let within : length objects < length old_names = slice_get_within old_names (length objects) x at in
    let here : IsReached bunch fields anchor x = h.reached x (at-Contains old_names (length objects) x at) in
    let size : IsTrue (is_size (length objects) (length fs)) = sized (length objects) (length fs)
    (λ zero_is.
    let first : slice_get old_names (length objects) ≡ Some anchor = ap (slice_get old_names) zero_is ∙ h.first in
    let same : x ≡ anchor = cc (at, first) in
    len ∙ ap (λ (y : ℕ). length (fields y)) same ∙ can.wide)
    (omega (arith, len, can.sizes x here)) in
    record {
      placed = to.placed;
      first = to.kept 0 anchor h.first;
      home = to.home ∙ h.home;
      reached = λ y e. ⊎_elim
          (λ (had : Contains old_names y). h.reached y had)
          (λ (there : Contains (fields x) (val.Ref y)). InField x here there (to.within y there ∙ h.home))
          (to.only y e);
      few = omega (arith, within, to.longer, length-append objects (o ∷ []));
      told = λ i p e. elim (slice_get-push_cases objects o i p e) [
        | inl had ↦
            let was = h.told i p had in
            (was.0, to.kept i was.0 was.1, TellsAll-kept old_names names (fields was.0) p.fields to.kept was.2)
        | inr last ↦ (x, to.kept i x (ap (slice_get old_names) last.0 ∙ at), subst (λ (q : ImageObject). TellsAll names (fields x) q.fields) last.1 to.tells)
      ];
      fits = λ count le.
          let before = h.fits count (omega (arith, to.longer)) in
          let this : ObjectFits count (length objects) (length old_names - 1) o = record { mentioned = omega arith; sized = size; fields = to.fits count le } in
          fit_more (StandsBehind count) [] objects o before (subst (λ (t : ℕ). ObjectFits count (length objects) t o) (sym h.top) this);
      top = let more = top_of_more objects o in omega (arith, h.top, to.top, more);
    }

-- an object leaves the bunch, or there is no memory
pub gathers_no_further : (bunch : ℕ → Option ℕ) (fields : ℕ → List Val) (anchor x : ℕ) (m new : Mentions) (objects : List ImageObject) (e : GatherError)
    → HasGathered bunch fields anchor m objects → slice_get m.names.items (length objects) ≡ Some x → GoesOn bunch (fields x) m new (Err e) → IsGathered bunch fields anchor (Err e)
gathers_no_further bunch fields anchor x m new objects error.NoMemory h at to = tt
gathers_no_further bunch fields anchor x m new objects error.Crosses h at to = record {
  source = x;
  target = to.target;
  reached = h.reached x (at-Contains m.names.items (length objects) x at);
  refers = to.refers;
  apart = λ same. to.apart (same ∙ sym h.home);
}
gathers_no_further bunch fields anchor x m new objects error.Large h at to = absurd to

-- ## at the end

past_end : {A : Type 0} (xs : List A) (i : ℕ) → slice_get xs i ≡ None → length xs ≤ i
past_end [] i h = omega arith
past_end (x ∷ xs) zero h = absurd (cc)
past_end (x ∷ xs) (suc i) h = let rest = past_end xs i h in omega arith

there_is : {A : Type 0} (xs : List A) (i : ℕ) → i < length xs → (x : A) × (slice_get xs i ≡ Some x)
there_is xs i lt = elim (slice_get_cases xs i).1 [ inl found ↦ (found.0, found.2) | inr past ↦ absurd (omega (arith, past.0)) ]

-- a name in a value that is told was mentioned
told_name : (names : List ℕ) (vs : List Val) (fs : List ImageField) (j y : ℕ) → TellsAll names vs fs → slice_get vs j ≡ Some (val.Ref y) → Contains names y
told_name names [] fs j y h e = absurd cc
told_name names (v ∷ vs) [] j y h e = absurd h
told_name names (v ∷ vs) (f ∷ fs) zero y h e =
    let same : v ≡ val.Ref y = cc in
    let one : Tells names (val.Ref y) f = subst (λ (w : Val). Tells names w f) same h.0 in
    at-Contains names one.0 y one.2
told_name names (v ∷ vs) (f ∷ fs) (suc j) y h e = told_name names vs fs j y h.1 e

-- everything that is mentioned was gathered
pub record IsWhole (bunch : ℕ → Option ℕ) (fields : ℕ → List Val) (anchor : ℕ) (m : Mentions) (objects : List ImageObject) : Type 0 where
  pub gathered : HasGathered bunch fields anchor m objects
  pub all : length objects ≡ length m.names.items

pub whole : (bunch : ℕ → Option ℕ) (fields : ℕ → List Val) (anchor : ℕ) (m : Mentions) (objects : List ImageObject) → HasGathered bunch fields anchor m objects
    → slice_get m.names.items (length objects) ≡ None → IsWhole bunch fields anchor m objects
whole bunch fields anchor m objects h e = record { gathered = h; all = let past = past_end m.names.items (length objects) e in omega (arith, h.few) }

closed : (bunch : ℕ → Option ℕ) (fields : ℕ → List Val) (anchor : ℕ) (m : Mentions) (objects : List ImageObject) → IsWhole bunch fields anchor m objects
    → (x y : ℕ) → Contains m.names.items x → Contains (fields x) (val.Ref y) → Contains m.names.items y
closed bunch fields anchor m objects w x y there refers =
    let names = m.names.items in
    let at = Contains-at names x there in
    let within : at.0 < length objects = omega (arith, w.all, slice_get_within names at.0 x at.1) in
    let o = there_is objects at.0 within in
    let told = w.gathered.told at.0 o.0 o.1 in
    let same : told.0 ≡ x = cc (told.1, at.1) in
    let tells : TellsAll names (fields x) o.0.fields = subst (λ (z : ℕ). TellsAll names (fields z) o.0.fields) same told.2 in
    let place = Contains-at (fields x) (val.Ref y) refers in
    told_name names (fields x) o.0.fields place.0 y tells place.1

reached_in : (bunch : ℕ → Option ℕ) (fields : ℕ → List Val) (anchor : ℕ) (m : Mentions) (objects : List ImageObject) → IsWhole bunch fields anchor m objects
    → (x : ℕ) → IsReached bunch fields anchor x → Contains m.names.items x
reached_in bunch fields anchor m objects w x Anchor = at-Contains m.names.items 0 x w.gathered.first
reached_in bunch fields anchor m objects w x (InField y from there e) = closed bunch fields anchor m objects w y x (reached_in bunch fields anchor m objects w y from) there

pub crosses_nowhere : (bunch : ℕ → Option ℕ) (fields : ℕ → List Val) (anchor : ℕ) (m : Mentions) (objects : List ImageObject) → IsWhole bunch fields anchor m objects → DoesCross bunch fields anchor → ⊥
crosses_nowhere bunch fields anchor m objects w cross =
    let there = closed bunch fields anchor m objects w cross.source cross.target (reached_in bunch fields anchor m objects w cross.source cross.reached) cross.refers in
    cross.apart (reached_home bunch fields anchor cross.target (w.gathered.reached cross.target there))

-- no name has two places
apart : (m : Mentions) → IsPlaced m → IsDistinct nat_eq m.names.items
apart m placed =
    IsDistinct-from_apart nat_eq m.names.items
    (λ i j d lt within.
    ne_eqb _ _ (λ same.
    let names = m.names.items in
    let first = placed.found (get_or names i d) i (slice_get-get_or names i d (omega arith)) in
    let second = placed.found (get_or names i d) j (slice_get-get_or names j d within ∙ ap Some (sym same)) in
    let places : i ≡ j = cc (first, second) in
    omega arith))

-- a list of names that are reached, each once, is no longer than what was mentioned
no_longer : (bunch : ℕ → Option ℕ) (fields : ℕ → List Val) (anchor : ℕ) (m : Mentions) (objects : List ImageObject) → IsWhole bunch fields anchor m objects
    → (names : List ℕ) → IsDistinct nat_eq names → ((x : ℕ) → Contains names x → IsReached bunch fields anchor x) → length names ≤ length m.names.items
no_longer bunch fields anchor m objects w names distinct reached =
    length-le_from_is_member nat_eq_equiv names m.names.items distinct
    (λ q found. list_any-from_Contains nat_eq_equiv q m.names.items (reached_in bunch fields anchor m objects w q (reached q (Contains-from_any (λ x y e. eqb-true x y e) q names found))))

pub large : (bunch : ℕ → Option ℕ) (fields : ℕ → List Val) (anchor : ℕ) (m : Mentions) (objects : List ImageObject) → IsWhole bunch fields anchor m objects → 20000 < length objects
    → IsLarge bunch fields anchor × (DoesCross bunch fields anchor → ⊥)
large bunch fields anchor m objects w many =
    (record { names = m.names.items; distinct = apart m w.gathered.placed; reached = w.gathered.reached; many = omega (arith, w.all) }, crosses_nowhere bunch fields anchor m objects w)

pub image : (bunch : ℕ → Option ℕ) (fields : ℕ → List Val) (anchor : ℕ) (m : Mentions) (objects : List ImageObject) → IsWhole bunch fields anchor m objects → length objects ≤ 20000 → IsImage objects
image bunch fields anchor m objects w few =
    let some : 0 < length m.names.items = slice_get_within m.names.items 0 anchor w.gathered.first in
    let a = lt-ltb 0 (length objects) (omega (arith, w.all)) in
    let b = le-leb (length objects) 20000 few in
    record { counted = rw (a, b) refl; fit = w.gathered.fits (length objects) (omega (arith, w.all)) }

pub told : (bunch : ℕ → Option ℕ) (fields : ℕ → List Val) (anchor : ℕ) (m : Mentions) (objects : List ImageObject) → IsWhole bunch fields anchor m objects → length objects ≤ 20000
    → IsImageFrom bunch fields anchor objects × (DoesCross bunch fields anchor → ⊥) × (IsLarge bunch fields anchor → ⊥)
told bunch fields anchor m objects w few = (
  record {
    names = m.names.items;
    distinct = apart m w.gathered.placed;
    first = w.gathered.first;
    reached = λ x. (w.gathered.reached x, reached_in bunch fields anchor m objects w x);
    all = w.all;
    told = w.gathered.told;
  },
  crosses_nowhere bunch fields anchor m objects w,
  λ h. let short = no_longer bunch fields anchor m objects w h.names h.distinct h.reached in omega (arith, h.many, w.all),
)
