-- The names that a letter gives, recorded one after another.
use Rattle.std.proofs.Common.{◌≡◌, ℕ, ◌+◌, ◌≤◌, ◌<◌, List, [], ◌∷◌, ◌++◌, length, take, drop, get_or, Option, refl, sym, ap, ◌∙◌, arith, filter_map}
use Rattle.std.proofs.lemmas.List.{take_more, take-append-drop, length-append}
use Rattle.std.proofs.lemmas.List.Sums.{fold-append}
use Rattle.std.proofs.lemmas.List.Elements.{filter_map-append}
use Rattle.bmx_types.specs.declared.addresses.Info.{Info}
use Rattle.bmx_msg.specs.declared.letters.Field.{Field}
use Rattle.bmx_msg.specs.declared.letters.Field.TheVariants.{Null, Int, Ref}
use Rattle.bmx_msg.specs.Letters.{target_of, targets}
use Rattle.bmx_owner.specs.declared.entering.Record.{Record}
use Rattle.bmx_owner.specs.Records as owner
use Rattle.bmx_protocol.specs.Rules.{info_in}
use Rattle.bmx_mail.specs.Mails.{with_names_given}

append_nil : {A : Type 0} (xs : List A) → xs ++ [] ≡ xs
append_nil [] = refl
append_nil (x ∷ xs) = ap (λ l. x ∷ l) (append_nil xs)

-- what fields tell is no less than what the first of them tell
told_within : {A : Type 0} (h : Field → Option A) (fields : List Field) (k : ℕ) → length (filter_map h (take k fields)) ≤ length (filter_map h fields)
told_within h fields k =
    let both : length (filter_map h fields) ≡ length (filter_map h (take k fields)) + length (filter_map h (drop k fields)) =
    ap (λ l. length (filter_map h l)) (sym (take-append-drop k fields))
    ∙ ap length (filter_map-append h (take k fields) (drop k fields))
    ∙ length-append (filter_map h (take k fields)) (filter_map h (drop k fields)) in
    omega arith

-- one field more
module _ (fields : List Field) (k : ℕ) (f : Field) (lt : k < length fields) (is : f ≡ get_or fields k f) where
  more : {A : Type 0} (h : Field → Option A) → filter_map h (take (k + 1) fields) ≡ filter_map h (take k fields) ++ filter_map h (f ∷ [])
  more h =
      ap (filter_map h) (take_more fields k f lt)
      ∙ filter_map-append h (take k fields) (get_or fields k f ∷ [])
      ∙ ap (λ x. filter_map h (take k fields) ++ filter_map h (x ∷ [])) (sym is)

  -- a reference tells one name and one Info more
  one_name : (info : Info) → f ≡ Ref info → length (targets (take (k + 1) fields)) ≡ length (targets (take k fields)) + 1
  one_name info ref =
      ap length (more target_of ∙ ap (λ x. targets (take k fields) ++ targets (x ∷ [])) ref)
      ∙ length-append (targets (take k fields)) (info.name ∷ [])

  -- so there is room for its record
  pub there_is_room : (room left : ℕ) (info : Info) → f ≡ Ref info → length (targets fields) ≤ room → room ≤ left + length (targets (take k fields)) → 0 < left
  there_is_room room left info ref fits used =
      let e : length (targets (take (k + 1) fields)) ≡ length (targets (take k fields)) + 1 = one_name info ref in
      let h : length (targets (take (k + 1) fields)) ≤ length (targets fields) = told_within target_of fields (k + 1) in
      omega arith

  -- it is recorded
  pub given_more : (records now new : List Record) (to seq : ℕ) (info : Info) → f ≡ Ref info →
      now ≡ with_names_given records (filter_map info_in (take k fields)) to seq → new ≡ owner.given now info.name info.bunch to seq →
      new ≡ with_names_given records (filter_map info_in (take (k + 1) fields)) to seq
  given_more records now new to seq info ref before after =
      let one : List Record → Info → List Record = λ rs i. owner.given rs i.name i.bunch to seq in
      after
      ∙ ap (λ rs. one rs info) before
      ∙ sym (fold-append one records (filter_map info_in (take k fields)) (info ∷ []))
      ∙ ap (λ l. with_names_given records l to seq) (sym (more info_in ∙ ap (λ x. filter_map info_in (take k fields) ++ filter_map info_in (x ∷ [])) ref))

  pub spare_more : (room left rest : ℕ) (info : Info) → f ≡ Ref info → room ≤ left + length (targets (take k fields)) → left ≤ rest + 1 →
      room ≤ rest + length (targets (take (k + 1) fields))
  spare_more room left rest info ref used one =
      let e : length (targets (take (k + 1) fields)) ≡ length (targets (take k fields)) + 1 = one_name info ref in
      omega arith

  -- any other field tells nothing
  same : {A : Type 0} (h : Field → Option A) → filter_map h (f ∷ []) ≡ [] → filter_map h (take (k + 1) fields) ≡ filter_map h (take k fields)
  same h none = more h ∙ ap (λ l. filter_map h (take k fields) ++ l) none ∙ append_nil (filter_map h (take k fields))

  no_info : ((info : Info) → f ≡ Ref info → ⊥) → filter_map info_in (f ∷ []) ≡ []
  no_info = by f
    where
      by : (g : Field) → ((info : Info) → g ≡ Ref info → ⊥) → filter_map info_in (g ∷ []) ≡ []
      by Null not = refl
      by (Int n) not = refl
      by (Ref info) not = absurd (not info refl)

  no_name : ((info : Info) → f ≡ Ref info → ⊥) → targets (f ∷ []) ≡ []
  no_name = by f
    where
      by : (g : Field) → ((info : Info) → g ≡ Ref info → ⊥) → targets (g ∷ []) ≡ []
      by Null not = refl
      by (Int n) not = refl
      by (Ref info) not = absurd (not info refl)

  pub given_same : (records now : List Record) (to seq : ℕ) → ((info : Info) → f ≡ Ref info → ⊥) →
      now ≡ with_names_given records (filter_map info_in (take k fields)) to seq → now ≡ with_names_given records (filter_map info_in (take (k + 1) fields)) to seq
  given_same records now to seq not before = before ∙ ap (λ l. with_names_given records l to seq) (sym (same info_in (no_info not)))

  pub spare_same : (room left : ℕ) → ((info : Info) → f ≡ Ref info → ⊥) → room ≤ left + length (targets (take k fields)) → room ≤ left + length (targets (take (k + 1) fields))
  spare_same room left not used =
      let e : length (targets (take (k + 1) fields)) ≡ length (targets (take k fields)) = ap length (same target_of (no_name not)) in
      omega arith
