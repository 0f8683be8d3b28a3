-- What copies and letters refer to is known, over legal histories with collectors.
use Rattle.std.proofs.Common.{◌≡◌, ℕ, ◌<◌, ◌≤◌, ◌||◌, ◌⊎◌, inl, inr, arith, ap, subst, ◌∙◌, refl, Bool, true, false, List, [], ◌∷◌, map, Contains}
use Rattle.std.specs.Prelude.{Option, Some, None, IsSome, is_some}
use Rattle.std.specs.Option.{option_map_or}
use Rattle.std.specs.List.{list_any}
use Rattle.bmx_types.specs.Openings.{IsOpening}
use Rattle.bmx_msg.specs.declared.letters.Letter.{Letter}
use Rattle.bmx_msg.specs.Letters.{given}
use Rattle.bmx_owner.specs.declared.entering.Record.{Record}
use Rattle.bmx_token_model.specs.Machine.{Numbers}
use Rattle.bmx_token_model.specs.Laws.{RecordsAreKept}
use Rattle.bmx_token_model.proofs.Stated.{gifts_are_recorded}
use Rattle.bmx_protocol.specs.declared.views.ViewField.{ViewField}
use Rattle.bmx_protocol.specs.declared.views.ViewField.TheVariants as field
use Rattle.bmx_protocol.specs.Nodes.{Setting, Known}
use Rattle.bmx_protocol.specs.Worlds.{World, world_of}
use Rattle.bmx_protocol.proofs.Basics.{eqb_of, some_same, none_some}
use Rattle.bmx_collection.specs.Reach.{is_reference_to}
use Rattle.bmx_collection.specs.Steps.{LinkedNode, unlinked, first_linked}
use Rattle.bmx_collection.specs.Histories.{LinkedEvent, plain_events, ReplaysLinked, IsLegalLinked}
use Rattle.bmx_collection.proofs.Listing.{nothing_in, behind, first_of, one_of}
use Rattle.bmx_collection.proofs.Rising.{listed}
use Rattle.bmx_collection.proofs.Standing.{pairs_always_stand}
use Rattle.bmx_collection.proofs.Worked.{worked_runs_are_legal_linked}
use Rattle.bmx_store_laws.specs.Inside.Seen.{seen, seen_known, seen_record, seen_message}
use Rattle.bmx_store_laws.proofs.Sends.{notes_give}
use Rattle.bmx_store_laws.proofs.Applied as stores
use Rattle.bmx_coherence.specs.Copies.{HasRecord}
use Rattle.bmx_collection_laws.specs.Laws.{TargetsStand, LawsApply}
use Rattle.bmx_collection_laws.proofs.Always.{each_name_always}

-- a list that has what passes a test has some that does
any_there : {A : Type 0} (p : A → Bool) (xs : List A) (x : A) → Contains xs x → p x ≡ true → list_any p xs ≡ true
any_there p [] x c e = absurd (nothing_in x c)
any_there p (y ∷ xs) x c e = by (one_of y x xs c) (any_there p xs x)
  where
    there : (a b : Bool) → b ≡ true → (a || b) ≡ true
    there true b e = refl
    there false b e = e

    by : (y ≡ x) ⊎ Contains xs x → (Contains xs x → p x ≡ true → list_any p xs ≡ true) → (p y || list_any p xs) ≡ true
    by (inl same) rest = λ i. (ap p same ∙ e) i || list_any p xs
    by (inr later) rest = there (p y) (list_any p xs) (rest later e)

in_map : {A B : Type 0} (f : A → B) (xs : List A) (x : A) → Contains xs x → Contains (map f xs) (f x)
in_map f [] x c = absurd (nothing_in x c)
in_map f (y ∷ xs) x c = by (one_of y x xs c) (in_map f xs x)
  where
    by : (y ≡ x) ⊎ Contains xs x → (Contains xs x → Contains (map f xs) (f x)) → Contains (f y ∷ map f xs) (f x)
    by (inl same) rest = subst (Contains (f y ∷ map f xs)) (ap f same) (first_of (f y) (map f xs))
    by (inr later) rest = behind (f y) (f x) (map f xs) (rest later)

module _ (st : Setting) (history : List LinkedEvent) (nodes : ℕ → LinkedNode) (opening : IsOpening st.nodes st.limit st.births) (legal : IsLegalLinked st history)
    (r : ReplaysLinked st (first_linked st) history nodes) where
  abbrev w : World
  w = world_of (λ k. unlinked (nodes k)) (plain_events history)

  copy_target : (n x y : ℕ) (k : Known) (fields : List ViewField) → n < st.nodes → (w.state n).known x ≡ Some k → k.copy ≡ Some fields →
      Contains fields (field.Ref y) → IsSome ((w.state n).known y)
  copy_target n x y k fields less known copy there = (pairs_always_stand st history nodes opening legal r).entries n x y less
      (ap (λ (o : Option Known). option_map_or (λ (j : Known). option_map_or (list_any (is_reference_to y)) j.copy false) o false) known
      ∙ ap (λ (o : Option (List ViewField)). option_map_or (list_any (is_reference_to y)) o false) copy
      ∙ any_there (is_reference_to y) fields (field.Ref y) there (eqb_of {a = y} {b = y} refl))

  letter_target : (n m y : ℕ) (l : Letter) → Contains (w.channel n m) l → Contains (given l.msg) y → IsSome ((w.state n).known y) × HasRecord w y n m l.seq
  letter_target n m y l there gives_it =
      let kept : RecordsAreKept (seen y w) = each_name_always RecordsAreKept gifts_are_recorded st history nodes opening legal r y in
      let gift : IsSome ((seen y w).holds n) × (q : Numbers) × ((seen y w).entering n m ≡ Some q) × (l.seq ≤ q.sent) =
      kept.gifts n m (seen_message y l) (in_map (seen_message y) (w.channel n m) l there) (notes_give y l.msg ∙ listed (given l.msg) y gives_it) in
      (known ((w.state n).known y) gift.0, recorded gift.1 ((w.state n).entering y m) refl gift.2 gift.3)
    where
      known : (o : Option Known) → is_some (seen_known o) ≡ true → is_some o ≡ true
      known None e = e
      known (Some k) e = refl

      recorded : (q : Numbers) (o : Option Record) → (w.state n).entering y m ≡ o → seen_record o ≡ Some q → l.seq ≤ q.sent → HasRecord w y n m l.seq
      recorded q None at e late = none_some e
      recorded q (Some p) at e late =
          let same : p.sent ≡ q.sent = ap (λ (z : Numbers). z.sent) (some_same e) in
          record { entry = p; there = at; late = omega (arith, late, same) }

pub targets_stand : TargetsStand
targets_stand st history nodes opening legal r = record {
  copies = copy_target st history nodes opening legal r;
  letters = letter_target st history nodes opening legal r;
}

-- ## the laws speak of something

pub laws_apply : LawsApply
laws_apply = (stores.laws_apply.0, worked_runs_are_legal_linked.a_late_table)
