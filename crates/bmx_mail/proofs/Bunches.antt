-- The drafts of a rule tell the bunches that the node knows, also after its changes of tokens.
use Rattle.std.proofs.Common.{◌≡◌, ℕ, Bool, true, false, cond, eqb, List, [], ◌∷◌, map, filter_map, Option, Some, None, refl, sym, ap, ◌∙◌}
use Rattle.std.specs.Option.{option_map_or}
use Rattle.std.proofs.lemmas.Bool.{eqb-true}
use Rattle.bmx_types.specs.declared.addresses.Place.{Place}
use Rattle.bmx_types.specs.declared.numbers.Mode.TheVariants as mode
use Rattle.bmx_token.specs.Transitions.{Share, Note, Asks, Grants, Recalls, Returns, Send}
use Rattle.bmx_protocol.specs.declared.views.ViewField.{ViewField}
use Rattle.bmx_protocol.specs.declared.views.ViewField.TheVariants as field
use Rattle.bmx_protocol.specs.Nodes.{NodeState, Known}
use Rattle.bmx_protocol.specs.Changes.{after_changes}
use Rattle.bmx_protocol.specs.Rules.{info_of, told_field, message, drafts_of, known_change, info_in}
use Rattle.bmx_mail.specs.Mails.{bunch_known, AreOfBunches, TellsBunches}
use Rattle.bmx_mail.specs.Inside.Posts.{TellBunches}

-- two states know the same bunches
abbrev pub KnowsAlike : NodeState → NodeState → Type 0
KnowsAlike s t = (name : ℕ) → bunch_known s name ≡ bunch_known t name

module _ (s t : NodeState) (lies : ℕ → Place) (alike : KnowsAlike s t) where
  fields_told : (fields : List ViewField) → AreOfBunches s (filter_map info_in (map (told_field t lies) fields))
  fields_told [] = tt
  fields_told (field.Null ∷ fields) = fields_told fields
  fields_told (field.Int k ∷ fields) = fields_told fields
  fields_told (field.Ref name ∷ fields) = (alike name, fields_told fields)

  note_told : (name : ℕ) (fields : List ViewField) (n : Note) → TellsBunches s (message (info_of t lies name) (map (told_field t lies) fields) n)
  note_told name fields (Asks mode.Read asker) = tt
  note_told name fields (Asks mode.Write asker) = tt
  note_told name fields (Grants mode.Read) = (alike name, fields_told fields)
  note_told name fields (Grants mode.Write) = (alike name, fields_told fields)
  note_told name fields Recalls = tt
  note_told name fields Returns = tt

  -- so the drafts of notes about an object tell them
  pub drafts_tell : (name : ℕ) (sends : List Send) → TellBunches s (drafts_of t lies name sends)
  drafts_tell name [] = tt
  drafts_tell name (n ∷ sends) = (note_told name _ n.note, drafts_tell name sends)

-- a change of a token leaves bunches as they were
pub known_alike : (s : NodeState) (name : ℕ) (k : Known) (fields : Option (List ViewField)) (h : Option Share) → s.known name ≡ Some k →
    KnowsAlike (after_changes s (known_change name (Some k) fields h)) s
known_alike s name k fields None is x = refl
known_alike s name k fields (Some h) is x = by (eqb name x) (eqb-true name x)
  where
    by : (b : Bool) → (b ≡ true → name ≡ x) → option_map_or (λ (j : Known). j.bunch) (cond b (Some (record k { copy = cond h.copy fields None; part = h.part })) (s.known x)) 0 ≡ bunch_known s x
    by true same = ap (λ (o : Option Known). option_map_or (λ (j : Known). j.bunch) o 0) (sym is) ∙ ap (bunch_known s) (same refl)
    by false same = refl
