-- Infos in fields, one field after another.
use Rattle.std.proofs.lemmas.Bool.{false≢true, le-leb}
use Rattle.std.proofs.lemmas.List.{take_more, take-append-drop, length-append}
use Rattle.std.proofs.lemmas.List.Elements.{filter_map-append}
use Rattle.std.proofs.lemmas.List.Folds.{list_any-append}
use Rattle.bmx_node.specs.Inside.Screens.{has_bad_info}
use Rattle.std.proofs.Common.{◌==◌, ◌≤◌, not, ◌≡◌, ℕ, ◌+◌, ◌<◌, ◌||◌, Bool, true, false, List, [], ◌∷◌, ◌++◌, length, filter_map, Option, refl, take, drop, sym, ◌∙◌, ap, arith, get_or}
use Rattle.std.specs.List.{list_any}
use Rattle.bmx_types.specs.declared.addresses.Info.{Info}
use Rattle.bmx_msg.specs.declared.letters.Field.{Field}
use Rattle.bmx_msg.specs.Letters.{target_of, targets}
use Rattle.bmx_msg.specs.declared.letters.Field.TheVariants.{Null, Int, Ref}
use Rattle.bmx_protocol.specs.Nodes.{Setting, NodeState}
use Rattle.bmx_protocol.specs.Rules.{info_in}
use Rattle.bmx_msg.specs.declared.letters.Letter.{Letter}
use Rattle.bmx_protocol.specs.Strays.{is_bad_info, is_bad_letter, is_no_node, too_large}

or_true : (b : Bool) → (b || true) ≡ true
or_true true = refl
or_true false = refl

true_or : (a b : Bool) → a ≡ true → (a || b) ≡ true
true_or true b e = refl
true_or false b e = absurd (false≢true e)

or_false : (a b : Bool) → a ≡ false → b ≡ false → (a || b) ≡ false
or_false false b e f = f
or_false true b e f = e

-- one field more
module _ (fields : List Field) (k : ℕ) (f : Field) (lt : k < length fields) (is : f ≡ get_or fields k f) where
  more : {A : Type 0} (h : Field → Option A) → filter_map h (take (k + 1) fields) ≡ filter_map h (take k fields) ++ filter_map h (f ∷ [])
  more h =
      ap (filter_map h) (take_more fields k f lt)
      ∙ filter_map-append h (take k fields) (get_or fields k f ∷ [])
      ∙ ap (λ x. filter_map h (take k fields) ++ filter_map h (x ∷ [])) (sym is)

  -- a reference is one name more
  pub count_more : (n : ℕ) (info : Info) → f ≡ Ref info → n ≡ 1 + length (targets (take k fields)) → n + 1 ≡ 1 + length (targets (take (k + 1) fields))
  count_more n info ref so =
      let e : length (targets (take (k + 1) fields)) ≡ length (targets (take k fields)) + 1 =
      ap length (more target_of ∙ ap (λ x. targets (take k fields) ++ targets (x ∷ [])) ref) ∙ length-append (targets (take k fields)) (info.name ∷ []) in
      omega arith

  same_targets : ((info : Info) → f ≡ Ref info → ⊥) → (g : Field) → f ≡ g → targets (g ∷ []) ≡ []
  same_targets never Null e = refl
  same_targets never (Int n) e = refl
  same_targets never (Ref info) e = absurd (never info e)

  pub count_same : (n : ℕ) → ((info : Info) → f ≡ Ref info → ⊥) → n ≡ 1 + length (targets (take k fields)) → n ≡ 1 + length (targets (take (k + 1) fields))
  count_same n never so =
      let e : length (targets (take (k + 1) fields)) ≡ length (targets (take k fields)) + 0 =
      ap length (more target_of) ∙ length-append (targets (take k fields)) (targets (f ∷ [])) ∙ ap (λ (l : List ℕ). length (targets (take k fields)) + length l) (same_targets never f refl) in
      omega arith

  module _ (st : Setting) (me : ℕ) (s : NodeState) where
    any_more : has_bad_info st me s (take (k + 1) fields) ≡ (has_bad_info st me s (take k fields) || has_bad_info st me s (f ∷ []))
    any_more = ap (list_any (is_bad_info st me s)) (more info_in) ∙ list_any-append (is_bad_info st me s) (filter_map info_in (take k fields)) (filter_map info_in (f ∷ []))

    pub bad_more : (info : Info) → f ≡ Ref info → is_bad_info st me s info ≡ false → has_bad_info st me s (take k fields) ≡ false → has_bad_info st me s (take (k + 1) fields) ≡ false
    bad_more info ref good so = any_more ∙ or_false _ _ so (ap (λ x. has_bad_info st me s (x ∷ [])) ref ∙ or_false _ _ good refl)

    others : ((info : Info) → f ≡ Ref info → ⊥) → (g : Field) → f ≡ g → has_bad_info st me s (g ∷ []) ≡ false
    others never Null e = refl
    others never (Int n) e = refl
    others never (Ref info) e = absurd (never info e)

    pub bad_same : ((info : Info) → f ≡ Ref info → ⊥) → has_bad_info st me s (take k fields) ≡ false → has_bad_info st me s (take (k + 1) fields) ≡ false
    bad_same never so = any_more ∙ or_false _ _ so (others never f refl)

    pub bad_found : (info : Info) → f ≡ Ref info → is_bad_info st me s info ≡ true → has_bad_info st me s fields ≡ true
    bad_found info ref bad =
        let P : Info → Bool = is_bad_info st me s in
        let one : has_bad_info st me s (f ∷ []) ≡ true = ap (λ x. has_bad_info st me s (x ∷ [])) ref ∙ true_or (P info) false bad in
        let front : has_bad_info st me s (take (k + 1) fields) ≡ true = any_more ∙ ap (λ b. has_bad_info st me s (take k fields) || b) one ∙ or_true (has_bad_info st me s (take k fields)) in
        ap (λ l. has_bad_info st me s l) (sym (take-append-drop (k + 1) fields))
        ∙ ap (list_any P) (filter_map-append info_in (take (k + 1) fields) (drop (k + 1) fields))
        ∙ list_any-append P (filter_map info_in (take (k + 1) fields)) (filter_map info_in (drop (k + 1) fields))
        ∙ true_or _ _ front

-- a letter whose stamp is too large is bad
pub bad_stamp : (st : Setting) (me : ℕ) (s : NodeState) (from : ℕ) (l : Letter) → too_large ≤ l.stamp → is_bad_letter st me s from l ≡ true
bad_stamp st me s from l large =
    true_or _ _ (ap (λ b. (from == me || is_no_node st from || not (l.seq == s.taken from + 1)) || b) (le-leb too_large l.stamp large)
    ∙ or_true (from == me || is_no_node st from || not (l.seq == s.taken from + 1)))
