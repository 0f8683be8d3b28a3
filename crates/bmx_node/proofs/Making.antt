-- Holdings in which room was made, or an object.
use Rattle.std.proofs.Common.{◌≡◌, ℕ, ◌+◌, ◌≤◌, Some, unwrap_or, refl, sym, ◌∙◌, ap, subst, arith}
use Rattle.bmx_types.specs.Updates.{put}
use Rattle.bmx_types.specs.Words.{name_word}
use Rattle.bmx_token.specs.declared.parts.Part.{Part}
use Rattle.bmx_token.specs.Tokens.{owner_part}
use Rattle.bmx_tokens.specs.Tables.{part_of}
use Rattle.bmx_protocol.specs.Changes.{after_changes}
use Rattle.bmx_protocol.specs.Places.{with_made}
use Rattle.bmx_protocol.specs.Rules.{graph_changes, next_name, new_object}
use Rattle.bmx_memory.specs.Shown.{with_object, with_register, null_object}
use Rattle.bmx_node.specs.declared.strays.Dimensions.{Dimensions}
use Rattle.bmx_node.specs.Inside.Keeping.{Agree, Keeps}
use Rattle.bmx_node.proofs.Agreeing.{agree_made, known_turned}
use Rattle.bmx_types.specs.declared.values.Val.TheVariants as val
use Rattle.bmx_graph.specs.declared.effects.Effect.TheVariants as graph_effect
use Rattle.bmx_tokens.specs.Tables.{Table, part_at}
use Rattle.bmx_mail.specs.Mails.{entering_of, issued_of, taken_of}
use Rattle.bmx_memory.specs.Contents.{Contents}
use Rattle.bmx_memory.specs.Shown.{Shown, shown, known_with}
use Rattle.bmx_node.specs.declared.holdings.Holdings.{Holdings}
use Rattle.bmx_node.specs.Seen.{state_of, places_of, limit_of, node_of}
use Rattle.bmx_node.specs.Inside.Keeping.{Frame}

pub reserved_node : (h : Holdings) (t : Table) → t ≡ record h.tokens { spare = t.spare } → node_of (record h { tokens = t }) ≡ node_of h
unfolding state_of places_of
reserved_node h t rest = ap (λ (x : Table). node_of (record h { tokens = x })) rest

-- nor did the memory change
pub kept_node : (h : Holdings) (t : Table) (m : Contents) → t ≡ record h.tokens { spare = t.spare } → shown m ≡ shown h.memory → node_of (record h { tokens = t; memory = m }) ≡ node_of h
unfolding state_of places_of
kept_node h t m rest same = λ i. record {
  state = record {
    known = known_with (same i).object (part_at (rest i));
    register = (same i).register;
    entering = entering_of h.mail;
    issued = issued_of h.mail;
    taken = taken_of h.mail;
    clock = h.clock;
    made = h.made;
  };
  places = (same i).places;
}

pub kept_frame : (h : Holdings) (t : Table) (m : Contents) → shown m ≡ shown h.memory → Frame h (record h { tokens = t; memory = m })
unfolding limit_of
kept_frame h t m same = record { me = refl; store = refl; limit = ap (λ (x : Shown). x.limit) same; clock = refl }

-- ## an object

-- the node's next object was made, it owns it, and a register refers to it
pub record Made (old new : Holdings) (name register bunch size : ℕ) : Type 0 where
  pub named : name ≡ name_word old.me (old.made + 1)
  pub store : new.store ≡ old.store
  pub me : new.me ≡ old.me
  pub mail : new.mail ≡ old.mail
  pub clock : new.clock ≡ old.clock
  pub made : new.made ≡ old.made + 1
  pub tokens : new.tokens.me ≡ old.tokens.me
  pub part : part_of new.tokens ≡ put (part_of old.tokens) name (Some owner_part)
  pub shown : shown new.memory ≡ with_register (with_object (shown old.memory) name bunch size) register (val.Ref name)

pub made_state : (old new : Holdings) (name register bunch size : ℕ) → Made old new name register bunch size →
    state_of new ≡ after_changes (state_of old) (graph_changes old.me (state_of old) (graph_effect.Makes register bunch size))
unfolding state_of
made_state old new name register bunch size m = λ i. record {
  known = (
      (λ j. known_with (m.shown j).object (λ x. unwrap_or (m.part j x) owner_part))
      ∙ known_turned (shown old.memory).object (part_of old.tokens) name (null_object bunch size) owner_part
      ∙ ap (λ (n : ℕ). put (known_with (shown old.memory).object (part_at old.tokens)) n (Some (new_object bunch size))) m.named
      ) i;
  register = (
      ap (λ (x : Shown). x.register) m.shown
      ∙ ap (λ (n : ℕ). put (shown old.memory).register register (val.Ref n)) m.named
      ) i;
  entering = entering_of (m.mail i);
  issued = issued_of (m.mail i);
  taken = taken_of (m.mail i);
  clock = m.clock i;
  made = m.made i;
}

pub made_places : (old new : Holdings) (name register bunch size : ℕ) → Keeps old → Made old new name register bunch size →
    places_of new ≡ with_made old.me (places_of old) (next_name old.me (state_of old)) bunch size
unfolding state_of places_of
made_places old new name register bunch size keeps m =
    ap (λ (x : Shown). x.places) m.shown
    ∙ ap (λ (n : ℕ). with_made n (shown old.memory).places name bunch size) keeps.me
    ∙ ap (λ (n : ℕ). with_made old.me (shown old.memory).places n bunch size) m.named

pub made_frame : (old new : Holdings) (name register bunch size : ℕ) → Made old new name register bunch size → Frame old new
unfolding limit_of
made_frame old new name register bunch size m = record { me = m.me; store = m.store; limit = ap (λ (x : Shown). x.limit) m.shown; clock = m.clock }

pub made_keeps : (old new : Holdings) (name register bunch size : ℕ) → old.made ≤ old.clock + 320000 → Made old new name register bunch size → Keeps old → Keeps new
made_keeps old new name register bunch size few m keeps = record {
  me = ap (λ (x : Shown). x.me) m.shown ∙ keeps.me ∙ sym m.me;
  tokens = m.tokens ∙ keeps.tokens ∙ sym m.me;
  few = subst (λ (n : ℕ). n ≤ new.clock + 320001) (sym m.made) (subst (λ (n : ℕ). old.made + 1 ≤ n + 320001) (sym m.clock) (one_more old.made old.clock few));
  agree = moved (agree_made old.me old.made old.store.bunches (shown old.memory).object (part_of old.tokens) name (null_object bunch size) keeps.agree m.named refl);
}
  where
    one_more : (made clock : ℕ) → made ≤ clock + 320000 → made + 1 ≤ clock + 320001
    one_more made clock few = omega arith

    moved : Agree old.me (old.made + 1) old.store.bunches (put (shown old.memory).object name (Some (null_object bunch size))) (put (part_of old.tokens) name (Some owner_part)) →
        Agree new.me new.made new.store.bunches (shown new.memory).object (part_of new.tokens)
    moved a =
        subst (λ (n : ℕ). Agree n new.made new.store.bunches (shown new.memory).object (part_of new.tokens)) (sym m.me)
        (subst (λ (n : ℕ). Agree old.me n new.store.bunches (shown new.memory).object (part_of new.tokens)) (sym m.made)
        (subst (λ (n : Dimensions). Agree old.me (old.made + 1) n.bunches (shown new.memory).object (part_of new.tokens)) (sym m.store)
        (subst (λ (x : Shown). Agree old.me (old.made + 1) old.store.bunches x.object (part_of new.tokens)) (sym m.shown)
        (subst (Agree old.me (old.made + 1) old.store.bunches (put (shown old.memory).object name (Some (null_object bunch size)))) (sym m.part) a))))

-- by the calls one after another
pub made_by : (h : Holdings) (reserved added : Table) (object set : Contents) (name register bunch size : ℕ) (p : Part) → name ≡ name_word h.me (h.made + 1) →
    reserved ≡ record h.tokens { spare = reserved.spare } → p ≡ owner_part → part_of added ≡ put (part_of reserved) name (Some p) → added.me ≡ reserved.me →
    shown object ≡ with_object (shown h.memory) name bunch size → shown set ≡ with_register (shown object) register (val.Ref name) →
    Made h (record h { tokens = added; memory = set; made = h.made + 1 }) name register bunch size
made_by h reserved added object set name register bunch size p named rest owns part me one two = record {
  named = named;
  store = refl;
  me = refl;
  mail = refl;
  clock = refl;
  made = refl;
  tokens = me ∙ ap (λ (t : Table). t.me) rest;
  part = part ∙ ap (λ (t : Table). put (part_of t) name (Some p)) rest ∙ ap (λ (q : Part). put (part_of h.tokens) name (Some q)) owns;
  shown = two ∙ ap (λ (x : Shown). with_register x register (val.Ref name)) one;
}
