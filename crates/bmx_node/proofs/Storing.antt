-- Holdings in which a register or a field holds another value.
use Rattle.std.proofs.lemmas.Bool.{false≢true}
use Rattle.bmx_node.proofs.Puts.{put_again}
use Rattle.bmx_node.proofs.Turning.{Turns, turned_state, turned_places, turned_frame}
use Rattle.std.proofs.Common.{◌≡◌, ℕ, true, List, map, Option, Some, None, IsSome, is_some, unwrap_or, option_and_then, slice_get, refl, sym, ◌∙◌, ap}
use Rattle.std.specs.Option.{option_map}
use Rattle.bmx_types.specs.Updates.{put}
use Rattle.bmx_types.specs.declared.values.Val.{Val}
use Rattle.bmx_graph.specs.declared.effects.Effect.TheVariants.{Sets, Stores}
use Rattle.bmx_token.specs.declared.parts.Part.{Part}
use Rattle.bmx_token.specs.Tokens.{owner_part}
use Rattle.bmx_tokens.specs.Tables.{part_of, part_at}
use Rattle.bmx_protocol.specs.Nodes.{Known, value_in}
use Rattle.bmx_protocol.specs.Changes.{Knows, after_change, after_changes}
use Rattle.bmx_protocol.specs.Rules.{graph_changes, stored}
use Rattle.bmx_memory.specs.Contents.{Contents}
use Rattle.bmx_memory.specs.Shown.{Shown, Object, shown, value_of, known_with, known_as, with_register, with_stored, with_value}
use Rattle.bmx_mail.specs.Mails.{entering_of, issued_of, taken_of, with_mail}
use Rattle.bmx_node.specs.declared.holdings.Holdings.{Holdings}
use Rattle.bmx_node.specs.Seen.{state_of, places_of, limit_of}
use Rattle.bmx_node.specs.Inside.Keeping.{Keeps, Frame}

-- ## a register

pub set_state : (h : Holdings) (m : Contents) (register : ℕ) (v : Val) → shown m ≡ with_register (shown h.memory) register v →
    state_of (record h { memory = m }) ≡ after_changes (state_of h) (graph_changes h.me (state_of h) (Sets register v))
unfolding state_of
set_state h m register v set = λ i. record {
  known = known_with (set i).object (part_at h.tokens);
  register = (set i).register;
  entering = entering_of h.mail;
  issued = issued_of h.mail;
  taken = taken_of h.mail;
  clock = h.clock;
  made = h.made;
}

pub set_places : (h : Holdings) (m : Contents) (register : ℕ) (v : Val) → shown m ≡ with_register (shown h.memory) register v → places_of (record h { memory = m }) ≡ places_of h
unfolding places_of
set_places h m register v set = ap (λ (x : Shown). x.places) set

pub set_frame : (h : Holdings) (m : Contents) (register : ℕ) (v : Val) → shown m ≡ with_register (shown h.memory) register v → Frame h (record h { memory = m })
unfolding limit_of
set_frame h m register v set = record { me = refl; store = refl; limit = ap (λ (x : Shown). x.limit) set; clock = refl }

-- ## a field

-- a name's object and its token
record Found (h : Holdings) (name : ℕ) : Type 0 where
  object : Object
  part : Part
  had : (shown h.memory).object name ≡ Some object
  token : part_of h.tokens name ≡ Some part

there : {A : Type 0} (o : Option A) → is_some o ≡ true → (x : A) × (o ≡ Some x)
there None some = absurd (false≢true some)
there (Some x) some = (x, refl)

found : (h : Holdings) (name i : ℕ) → Keeps h → IsSome (value_of (shown h.memory) name i) → Found h name
found h name i keeps some =
    let object = there ((shown h.memory).object name) (by ((shown h.memory).object name) some) in
    let part = there (part_of h.tokens name) (keeps.agree.same name ∙ ap is_some object.1) in
    record { object = object.0; part = part.0; had = object.1; token = part.1 }
  where
    by : (o : Option Object) → is_some (option_and_then (λ (fields : List Val). slice_get fields i) (option_and_then (λ (x : Object). option_map (map value_in) x.copy) o)) ≡ true → is_some o ≡ true
    by None some = absurd (false≢true some)
    by (Some o) some = refl

turns_stored : (h : Holdings) (m : Contents) (name i : ℕ) (v : Val) (f : Found h name) → shown m ≡ with_stored (shown h.memory) name i v → Turns h (record h { memory = m }) name f.part (with_value i v f.object)
turns_stored h m name i v f set = record {
  store = refl;
  me = refl;
  clock = refl;
  made = refl;
  tokens = refl;
  part = put_again (part_of h.tokens) name (Some f.part) f.token;
  shown = set ∙ ap (λ (x : Option Object). record (shown h.memory) { object = put (shown h.memory).object name (option_map (with_value i v) x) }) f.had;
}

known_is : (h : Holdings) (name : ℕ) (f : Found h name) → (state_of h).known name ≡ Some (known_as f.part f.object)
unfolding state_of
known_is h name f = λ i. option_map (known_as (unwrap_or (f.token i) owner_part)) (f.had i)

pub store_state : (h : Holdings) (m : Contents) (name i : ℕ) (v : Val) → Keeps h → IsSome (value_of (shown h.memory) name i) → shown m ≡ with_stored (shown h.memory) name i v →
    state_of (record h { memory = m }) ≡ after_changes (state_of h) (graph_changes h.me (state_of h) (Stores name i v))
unfolding state_of
store_state h m name i v keeps some set =
    let f : Found h name = found h name i keeps some in
    same_mail h m name f i v (turned_state h (record h { memory = m }) name f.part (with_value i v f.object) (turns_stored h m name i v f set))
    ∙ sym (ap (λ (k : Option Known). after_changes (state_of h) (stored name k i v)) (known_is h name f))
  where
    same_mail : (h : Holdings) (m : Contents) (name : ℕ) (f : Found h name) (i : ℕ) (v : Val) →
        state_of (record h { memory = m }) ≡ with_mail (after_change (state_of h) (Knows name (known_as f.part (with_value i v f.object)))) h.mail →
        state_of (record h { memory = m }) ≡ after_changes (state_of h) (stored name (Some (known_as f.part f.object)) i v)
    same_mail h m name f i v e = e

pub store_places : (h : Holdings) (m : Contents) (name i : ℕ) (v : Val) → Keeps h → IsSome (value_of (shown h.memory) name i) → shown m ≡ with_stored (shown h.memory) name i v → places_of (record h { memory = m }) ≡ places_of h
store_places h m name i v keeps some set =
    let f : Found h name = found h name i keeps some in
    turned_places h (record h { memory = m }) name f.part (with_value i v f.object) (turns_stored h m name i v f set)

pub store_frame : (h : Holdings) (m : Contents) (name i : ℕ) (v : Val) → Keeps h → IsSome (value_of (shown h.memory) name i) → shown m ≡ with_stored (shown h.memory) name i v → Frame h (record h { memory = m })
store_frame h m name i v keeps some set =
    let f : Found h name = found h name i keeps some in
    turned_frame h (record h { memory = m }) name f.part (with_value i v f.object) (turns_stored h m name i v f set)
