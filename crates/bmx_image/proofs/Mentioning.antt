-- How names are mentioned, and values told.
use Rattle.std.proofs.Common.{◌≡◌, ◌⊎◌, inl, inr, ℕ, zero, suc, ◌+◌, ◌-◌, ◌<◌, cond, List, [], ◌∷◌, ◌++◌, length, take, max, Contains, Err, Option, Some, None, slice_get, refl, subst, sym, ap, ◌∙◌, ⊎_elim, arith, nat_cmp}
use Rattle.std.specs.BTreeMap.{get}
use Rattle.std.specs.Ordering.{is_eq}
use Rattle.std.proofs.lemmas.Bool.{cases_eq}
use Rattle.std.proofs.lemmas.Bool.Decides.{nat_tests}
use Rattle.std.proofs.lemmas.Cmp.{nat_cmp_total, tied_itself}
use Rattle.std.proofs.lemmas.List.{length-append, take_more}
use Rattle.std.proofs.lemmas.List.Elements.{Contains-append_left, Contains-append_right, Contains-push, Contains-push_cases, Contains-append_cases}
use Rattle.std.proofs.lemmas.Option.{slice_get_within, slice_get-get_or, get_or_from_slice_get}
use Rattle.bmx_types.specs.declared.values.Val.{Val}
use Rattle.bmx_types.specs.declared.values.Val.TheVariants as val
use Rattle.bmx_image.specs.declared.gathering.GatherError.{GatherError}
use Rattle.bmx_image.specs.declared.gathering.GatherError.TheVariants as error
use Rattle.bmx_image.specs.declared.gathering.Mentions.{Mentions}
use Rattle.bmx_image.specs.declared.images.ImageField.{ImageField}
use Rattle.bmx_image.specs.declared.images.ImageField.TheVariants as field
use Rattle.bmx_image.specs.Images.{FieldFits, FitsBehind, target, top_of_fields}
use Rattle.bmx_image.specs.Gathering.{Tells, TellsAll}
use Rattle.bmx_image.specs.Inside.Mentions.{Goes, GoesOn, IsMention, IsPlaced}
use Rattle.bmx_image.proofs.Steps.{fit_more, top_of_fields_more}

-- one item keeps the places of those before it
pub slice_get-append : {A : Type 0} (xs ys : List A) (i : ℕ) (x : A) → slice_get xs i ≡ Some x → slice_get (xs ++ ys) i ≡ Some x
slice_get-append [] ys i x h = absurd (cc)
slice_get-append (a ∷ xs) ys zero x h = h
slice_get-append (a ∷ xs) ys (suc i) x h = slice_get-append xs ys i x h

-- and stands behind them
pub slice_get-last : {A : Type 0} (xs : List A) (y : A) → slice_get (xs ++ y ∷ []) (length xs) ≡ Some y
slice_get-last [] y = refl
slice_get-last (a ∷ xs) y = slice_get-last xs y

pub slice_get-push_cases : {A : Type 0} (xs : List A) (y : A) (i : ℕ) (q : A) → slice_get (xs ++ y ∷ []) i ≡ Some q → (slice_get xs i ≡ Some q) ⊎ ((i ≡ length xs) × (y ≡ q))
slice_get-push_cases [] y zero q h = inr (refl, cc)
slice_get-push_cases [] y (suc i) q h = absurd (cc)
slice_get-push_cases (a ∷ xs) y zero q h = inl h
slice_get-push_cases (a ∷ xs) y (suc i) q h =
    elim (slice_get-push_cases xs y i q h) [ inl e ↦ inl e | inr e ↦ inr (ap suc e.0, e.1) ]

pub Contains-at : {A : Type 0} (xs : List A) (x : A) → Contains xs x → (i : ℕ) × (slice_get xs i ≡ Some x)
Contains-at xs x h = (h.0, slice_get-get_or xs h.0 x h.1 ∙ ap Some h.2)

pub at-Contains : {A : Type 0} (xs : List A) (i : ℕ) (x : A) → slice_get xs i ≡ Some x → Contains xs x
at-Contains xs i x h = (i, slice_get_within xs i x h, get_or_from_slice_get xs i x x h)

pub Contains_none : {A : Type 0} (x : A) → Contains [] x → ⊥
Contains_none x h = absurd (omega (arith, h.1))

pub Contains-one : {A : Type 0} (a x : A) → Contains (a ∷ []) x → a ≡ x
Contains-one a x h = ⊎_elim (λ (n : Contains [] x). absurd (Contains_none x n)) (λ (e : a ≡ x). e) (Contains-push_cases [] a x h)

-- a name that was mentioned before
pub mention_known : (m : Mentions) (x i : ℕ) → IsPlaced m → Some i ≡ get nat_cmp m.places x → IsMention m m x i
mention_known m x i h e = record { placed = h; home = refl; there = h.place x i (sym e); names = inl refl }

-- a name that wasn't
pub mention_new : (old new : Mentions) (x : ℕ) → IsPlaced old → get nat_cmp old.places x ≡ None → new.names.items ≡ old.names.items ++ x ∷ []
    → ((q : ℕ) → get nat_cmp new.places q ≡ cond (is_eq (nat_cmp x q)) (Some (length old.names.items)) (get nat_cmp old.places q)) → new.home ≡ old.home
    → IsMention old new x (length old.names.items)
mention_new old new x h none list map home =
    let names = old.names.items in
    let at : (q : ℕ) → x ≡ q → get nat_cmp new.places q ≡ Some (length names) =
    λ q e. map q ∙ ap (λ o. cond (is_eq o) (Some (length names)) (get nat_cmp old.places q)) (ap (nat_cmp x) (sym e) ∙ tied_itself nat_cmp_total x) in
    let apart : (q : ℕ) → (x ≡ q → ⊥) → get nat_cmp new.places q ≡ get nat_cmp old.places q = λ q ne. grind (arith, nat_tests, map q) in
    record {
      placed = record {
        place = λ q i e. subst (λ (xs : List ℕ). slice_get xs i ≡ Some q) (sym list) (⊎_elim
            (λ (same : x ≡ q).
            let end : length names ≡ i = cc (at q same, e) in
            subst (λ (k : ℕ). slice_get (names ++ x ∷ []) k ≡ Some q) end (slice_get-last names x ∙ ap Some same))
            (λ (ne : x ≡ q → ⊥). slice_get-append names (x ∷ []) i q (h.place q i (sym (apart q ne) ∙ e)))
            (cases_eq x q));
        found = λ q i e. elim (slice_get-push_cases names x i q (subst (λ (xs : List ℕ). slice_get xs i ≡ Some q) list e)) [
          | inl had ↦
              let was = h.found q i had in
              let ne : x ≡ q → ⊥ = λ same. let missing = subst (λ (z : ℕ). get nat_cmp old.places z ≡ None) same none in absurd (cc (missing, was)) in
              apart q ne ∙ was
          | inr last ↦ at q last.1 ∙ ap Some (sym last.0)
        ];
      };
      home = home;
      there = subst (λ (xs : List ℕ). slice_get xs (length names) ≡ Some x) (sym list) (slice_get-last names x);
      names = inr (list, refl);
    }

-- ## values

-- a name keeps its place
Tells-kept : (old new : List ℕ) (v : Val) (f : ImageField) → ((i x : ℕ) → slice_get old i ≡ Some x → slice_get new i ≡ Some x) → Tells old v f → Tells new v f
Tells-kept old new val.Null f kept h = h
Tells-kept old new (val.Int k) f kept h = h
Tells-kept old new (val.Ref y) f kept h = (h.0, h.1, kept h.0 y h.2)

pub TellsAll-kept : (old new : List ℕ) (vs : List Val) (fs : List ImageField) → ((i x : ℕ) → slice_get old i ≡ Some x → slice_get new i ≡ Some x) → TellsAll old vs fs → TellsAll new vs fs
TellsAll-kept old new [] [] kept h = h
TellsAll-kept old new [] (f ∷ fs) kept h = h
TellsAll-kept old new (v ∷ vs) [] kept h = h
TellsAll-kept old new (v ∷ vs) (f ∷ fs) kept h = (Tells-kept old new v f kept h.0, TellsAll-kept old new vs fs kept h.1)

TellsAll-more : (names : List ℕ) (vs : List Val) (fs : List ImageField) (v : Val) (f : ImageField) → TellsAll names vs fs → Tells names v f → TellsAll names (vs ++ v ∷ []) (fs ++ f ∷ [])
TellsAll-more names [] [] v f h one = (one, tt)
TellsAll-more names [] (g ∷ fs) v f h one = absurd h
TellsAll-more names (w ∷ vs) [] v f h one = absurd h
TellsAll-more names (w ∷ vs) (g ∷ fs) v f h one = (h.0, TellsAll-more names vs fs v f h.1 one)

-- no values
pub goes_none : (bunch : ℕ → Option ℕ) (m : Mentions) → IsPlaced m → Goes bunch [] [] m m
goes_none bunch m placed = record {
  placed = placed;
  home = refl;
  kept = λ i x h. h;
  longer = omega arith;
  only = λ x h. inl h;
  tells = tt;
  within = λ x h. absurd (Contains_none _ h);
  fits = λ count le. tt;
  top = omega arith;
}

-- a value that is no reference
pub goes_plain : (bunch : ℕ → Option ℕ) (m : Mentions) (v : Val) (f : ImageField) → IsPlaced m → ((x : ℕ) → v ≡ val.Ref x → ⊥) → Tells m.names.items v f → target f ≡ 0
    → ((count top : ℕ) → FieldFits count top f) → Goes bunch (v ∷ []) (f ∷ []) m m
goes_plain bunch m v f placed plain tells none fits = record {
  placed = placed;
  home = refl;
  kept = λ i x h. h;
  longer = omega arith;
  only = λ x h. inl h;
  tells = (tells, tt);
  within = λ x h. absurd (plain x (Contains-one _ _ h));
  fits = λ count le. (fits count _, tt);
  top = omega arith;
}

-- a reference to a name that is mentioned
pub goes_reference : (bunch : ℕ → Option ℕ) (old new : Mentions) (x i : ℕ) → 0 < length old.names.items → bunch x ≡ old.home → IsMention old new x i
    → Goes bunch (val.Ref x ∷ []) (field.Ref i ∷ []) old new
goes_reference bunch old new x i some near h =
    let a = length old.names.items in
    let b = length new.names.items in
    let there : i < b = slice_get_within new.names.items i x h.there in
    let sizes : ((b ≡ a) × (i < a)) ⊎ ((b ≡ a + 1) × (i ≡ a)) = elim h.names [
      | inl same ↦ let e : b ≡ a = ap length same in inl (e, omega arith)
      | inr last ↦ let e : b ≡ length (old.names.items ++ x ∷ []) = ap length last.0 in inr (omega (arith, e, length-append old.names.items (x ∷ [])), last.1)
    ] in
    record {
      placed = h.placed;
      home = h.home;
      kept = λ k y e. elim h.names [
        | inl same ↦ subst (λ (xs : List ℕ). slice_get xs k ≡ Some y) (sym same) e
        | inr last ↦ subst (λ (xs : List ℕ). slice_get xs k ≡ Some y) (sym last.0) (slice_get-append old.names.items (x ∷ []) k y e)
      ];
      longer = elim sizes [ inl s ↦ omega (arith, s.0) | inr s ↦ omega (arith, s.0) ];
      only = λ y e. elim h.names [
        | inl same ↦ inl (subst (λ (xs : List ℕ). Contains xs y) same e)
        | inr last ↦ ⊎_elim
            (λ (had : Contains old.names.items y). inl had)
            (λ (is : x ≡ y). inr (subst (λ (z : ℕ). Contains (val.Ref x ∷ []) (val.Ref z)) is (Contains-push [] (val.Ref x))))
            (Contains-push_cases old.names.items x y (subst (λ (xs : List ℕ). Contains xs y) last.0 e))
      ];
      tells = ((i, refl, h.there), tt);
      within = λ y e. let same : x ≡ y = cc (Contains-one _ _ e) in subst (λ (z : ℕ). bunch z ≡ old.home) same near;
      fits = λ count le. ((omega arith, elim sizes [ inl s ↦ omega (arith, s.0, s.1) | inr s ↦ omega (arith, s.0, s.1) ]), tt);
      top = elim sizes [ inl s ↦ omega (arith, s.0, s.1) | inr s ↦ omega (arith, s.0, s.1) ];
    }

-- some values and then one more
pub goes_more : (bunch : ℕ → Option ℕ) (vs : List Val) (fs : List ImageField) (v : Val) (f : ImageField) (old mid new : Mentions)
    → Goes bunch vs fs old mid → Goes bunch (v ∷ []) (f ∷ []) mid new → Goes bunch (vs ++ v ∷ []) (fs ++ f ∷ []) old new
goes_more bunch vs fs v f old mid new one two = record {
  placed = two.placed;
  home = two.home ∙ one.home;
  kept = λ i x h. two.kept i x (one.kept i x h);
  longer = omega (arith, one.longer, two.longer);
  only = λ x h. ⊎_elim
      (λ (a : Contains mid.names.items x). ⊎_elim
      (λ (b : Contains old.names.items x). inl b)
      (λ (b : Contains vs (val.Ref x)). inr (Contains-append_left vs (v ∷ []) (val.Ref x) b))
      (one.only x a))
      (λ (a : Contains (v ∷ []) (val.Ref x)). inr (Contains-append_right vs (v ∷ []) (val.Ref x) a))
      (two.only x h);
  tells = TellsAll-more new.names.items vs fs v f (TellsAll-kept mid.names.items new.names.items vs fs two.kept one.tells) two.tells.0;
  within = λ x h. ⊎_elim
      (λ (a : Contains vs (val.Ref x)). one.within x a)
      (λ (a : Contains (v ∷ []) (val.Ref x)). two.within x a ∙ one.home)
      (Contains-append_cases vs (v ∷ []) (val.Ref x) h);
  fits = λ count le.
      let here = (two.fits count le).0 in
      let tops : max (length mid.names.items - 1) 0 ≡ max (length old.names.items - 1) (top_of_fields fs) = omega (arith, one.top) in
      fit_more (FitsBehind count (length old.names.items - 1)) [] fs f (one.fits count (omega (arith, two.longer))) (subst (λ (t : ℕ). FieldFits count t f) tops here);
  top = let more = top_of_fields_more fs f in omega (arith, one.top, two.top, more);
}

-- one more value of a list
pub goes_next : (bunch : ℕ → Option ℕ) (values : List Val) (i : ℕ) (v : Val) (fs : List ImageField) (f : ImageField) (old mid new : Mentions) → slice_get values i ≡ Some v
    → Goes bunch (take i values) fs old mid → Goes bunch (v ∷ []) (f ∷ []) mid new → Goes bunch (take (i + 1) values) (fs ++ f ∷ []) old new
goes_next bunch values i v fs f old mid new at one two =
    let whole : take (i + 1) values ≡ take i values ++ v ∷ [] =
    take_more values i v (slice_get_within values i v at) ∙ ap (λ (x : Val). take i values ++ x ∷ []) (get_or_from_slice_get values i v v at) in
    subst (λ (vs : List Val). Goes bunch vs (fs ++ f ∷ []) old new) (sym whole) (goes_more bunch (take i values) fs v f old mid new one two)

-- one of the values leaves the bunch, or there is no memory
pub goes_no_further : (bunch : ℕ → Option ℕ) (values : List Val) (i : ℕ) (v : Val) (fs : List ImageField) (old mid new : Mentions) (e : GatherError) → slice_get values i ≡ Some v
    → Goes bunch (take i values) fs old mid → GoesOn bunch (v ∷ []) mid new (Err e) → GoesOn bunch values old new (Err e)
goes_no_further bunch values i v fs old mid new error.NoMemory at one h = tt
goes_no_further bunch values i v fs old mid new error.Crosses at one h =
    record {
      target = h.target;
      refers = at-Contains values i (val.Ref h.target) (at ∙ ap Some (Contains-one v (val.Ref h.target) h.refers));
      apart = λ same. h.apart (same ∙ sym one.home);
    }
goes_no_further bunch values i v fs old mid new error.Large at one h = absurd h
