-- Holdings in which the object and the token of one name changed.
use Rattle.bmx_node.proofs.Puts.{put_again}
use Rattle.bmx_node.proofs.Agreeing.{agree_turned, known_turned}
use Rattle.std.proofs.Common.{◌≡◌, ℕ, ◌+◌, ◌≤◌, true, Option, Some, None, is_some, unwrap_or, refl, sym, ◌∙◌, ap, subst}
use Rattle.std.specs.Option.{option_map}
use Rattle.bmx_types.specs.Updates.{put}
use Rattle.bmx_token.specs.declared.parts.Part.{Part}
use Rattle.bmx_token.specs.declared.parts.Role.TheVariants.{Owner}
use Rattle.bmx_token.specs.Tokens.{owner_part}
use Rattle.bmx_tokens.specs.Tables.{Table, part_of, Becomes}
use Rattle.bmx_protocol.specs.Changes.{Knows, after_change}
use Rattle.bmx_memory.specs.Contents.{Contents}
use Rattle.bmx_memory.specs.Shown.{with_copy as memory_with_copy, Shown, Object, shown, known_with, known_as, with_fields}
use Rattle.bmx_mail.specs.Mails.{entering_of, issued_of, taken_of, with_mail}
use Rattle.bmx_node.specs.declared.holdings.Holdings.{Holdings}
use Rattle.bmx_node.specs.declared.strays.Dimensions.{Dimensions}
use Rattle.bmx_node.specs.Seen.{state_of, places_of, limit_of}
use Rattle.bmx_node.specs.Inside.Keeping.{IsFit, Agree, Keeps, Frame}

-- the token of a name is this, its object that, and all else as it was
pub record Turns (old new : Holdings) (name : ℕ) (q : Part) (o : Object) : Type 0 where
  pub store : new.store ≡ old.store
  pub me : new.me ≡ old.me
  pub clock : new.clock ≡ old.clock
  pub made : new.made ≡ old.made
  pub tokens : new.tokens.me ≡ old.tokens.me
  pub part : part_of new.tokens ≡ put (part_of old.tokens) name (Some q)
  pub shown : shown new.memory ≡ record (shown old.memory) { object = put (shown old.memory).object name (Some o) }

-- the token alone changed
pub turns_token : (old : Holdings) (t : Table) (name : ℕ) (q : Part) (o : Object) → (shown old.memory).object name ≡ Some o →
    Becomes old.tokens t name q → Turns old (record old { tokens = t }) name q o
turns_token old t name q o had becomes = record {
  store = refl;
  me = refl;
  clock = refl;
  made = refl;
  tokens = becomes.me;
  part = becomes.part;
  shown = ap (λ (f : ℕ → Option Object). record (shown old.memory) { object = f }) (put_again (shown old.memory).object name (Some o) had);
}

-- and the copy went
pub turns_cleared : (old : Holdings) (t : Table) (m : Contents) (name : ℕ) (q : Part) (o : Object) → (shown old.memory).object name ≡ Some o →
    Becomes old.tokens t name q → shown m ≡ memory_with_copy (shown old.memory) name None → Turns old (record old { tokens = t; memory = m }) name q (record o { copy = None })
turns_cleared old t m name q o had becomes cleared = record {
  store = refl;
  me = refl;
  clock = refl;
  made = refl;
  tokens = becomes.me;
  part = becomes.part;
  shown = cleared ∙ ap (λ (x : Option Object). record (shown old.memory) { object = put (shown old.memory).object name (option_map (with_fields None) x) }) had;
}

-- the state knows this of the name, whatever became of the mail
pub turned_state : (old new : Holdings) (name : ℕ) (q : Part) (o : Object) → Turns old new name q o →
    state_of new ≡ with_mail (after_change (state_of old) (Knows name (known_as q o))) new.mail
unfolding state_of
turned_state old new name q o t = λ i. record {
  known = (
      (λ j. known_with (t.shown j).object (λ x. unwrap_or (t.part j x) owner_part))
      ∙ known_turned (shown old.memory).object (part_of old.tokens) name o q
      ) i;
  register = (t.shown i).register;
  entering = entering_of new.mail;
  issued = issued_of new.mail;
  taken = taken_of new.mail;
  clock = t.clock i;
  made = t.made i;
}

pub turned_places : (old new : Holdings) (name : ℕ) (q : Part) (o : Object) → Turns old new name q o → places_of new ≡ places_of old
unfolding places_of
turned_places old new name q o t = ap (λ (m : Shown). m.places) t.shown

pub turned_frame : (old new : Holdings) (name : ℕ) (q : Part) (o : Object) → Turns old new name q o → Frame old new
unfolding limit_of
turned_frame old new name q o t = record { me = t.me; store = t.store; limit = ap (λ (m : Shown). m.limit) t.shown; clock = t.clock }

pub turned_keeps : (old new : Holdings) (name : ℕ) (q : Part) (o was : Object) → Turns old new name q o → (shown old.memory).object name ≡ Some was →
    IsFit q → (q.role ≡ Owner → is_some o.copy ≡ true) → Keeps old → Keeps new
turned_keeps old new name q o was t had fit owner keeps = record {
  me = ap (λ (m : Shown). m.me) t.shown ∙ keeps.me ∙ sym t.me;
  tokens = t.tokens ∙ keeps.tokens ∙ sym t.me;
  few = subst (λ (n : ℕ). n ≤ new.clock + 320001) (sym t.made) (subst (λ (n : ℕ). old.made ≤ n + 320001) (sym t.clock) keeps.few);
  agree = moved (agree_turned old.me old.made old.store.bunches (shown old.memory).object (part_of old.tokens) name was o q keeps.agree had fit owner);
}
  where
    moved : Agree old.me old.made old.store.bunches (put (shown old.memory).object name (Some o)) (put (part_of old.tokens) name (Some q)) →
        Agree new.me new.made new.store.bunches (shown new.memory).object (part_of new.tokens)
    moved a =
        subst (λ (n : ℕ). Agree n new.made new.store.bunches (shown new.memory).object (part_of new.tokens)) (sym t.me)
        (subst (λ (n : ℕ). Agree old.me n new.store.bunches (shown new.memory).object (part_of new.tokens)) (sym t.made)
        (subst (λ (n : Dimensions). Agree old.me old.made n.bunches (shown new.memory).object (part_of new.tokens)) (sym t.store)
        (subst (λ (m : Shown). Agree old.me old.made old.store.bunches m.object (part_of new.tokens)) (sym t.shown)
        (subst (Agree old.me old.made old.store.bunches (put (shown old.memory).object name (Some o))) (sym t.part) a))))
