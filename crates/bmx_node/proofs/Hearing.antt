-- Objects of which a node hears, one after another.
use Rattle.std.proofs.Math.Path.{fun_ext}
use Rattle.std.proofs.lemmas.Bool.{cases_eq, false≢true}
use Rattle.std.proofs.lemmas.Nat.{div-mul-add, mod-mul-add}
use Rattle.std.proofs.lemmas.List.{drop_more}
use Rattle.std.proofs.lemmas.List.Elements.{All-head, All-tail, All-cons}
use Rattle.std.proofs.Common.{◌≡◌, ℕ, ◌+◌, ◌≤◌, ◌<◌, ◌^◌, ◌||◌, Bool, true, false, if◌then◌else◌, List, [], ◌∷◌, length, drop, map, filter_map, get_or, Option, Some, None, IsSome, is_some, unwrap_or, refl, sym, ◌∙◌, ap, subst, cond, ⊎_elim, arith}
use Rattle.std.specs.Prelude.{All}
use Rattle.std.specs.Option.{option_map, option_map_or}
use Rattle.bmx_types.specs.Updates.{put}
use Rattle.bmx_types.specs.Words.{name_word, anchor_of, maker, count_of}
use Rattle.bmx_types.specs.declared.addresses.Info.{Info}
use Rattle.bmx_msg.specs.declared.letters.Field.{Field}
use Rattle.bmx_msg.specs.declared.letters.Field.TheVariants as msg_field
use Rattle.bmx_token.specs.declared.parts.Part.{Part}
use Rattle.bmx_token.specs.declared.parts.Role.TheVariants.{Owner}
use Rattle.bmx_token.specs.Tokens.{owner_part, child_part}
use Rattle.bmx_tokens.specs.Tables.{Table, part_of, part_at}
use Rattle.bmx_protocol.specs.Nodes.{NodeState, Known}
use Rattle.bmx_protocol.specs.Places.{Places, with_learnt, with_all_learnt}
use Rattle.bmx_protocol.specs.Changes.{Hears, heard, heard_of, after_changes}
use Rattle.bmx_protocol.specs.Rules.{info_in}
use Rattle.bmx_protocol.specs.Strays.{clashes, some_clash}
use Rattle.bmx_memory.specs.Contents.{Contents, room_of}
use Rattle.bmx_memory.specs.Shown.{Object, Shown, Fits, shown, known_with, known_as, object_told, with_info}
use Rattle.bmx_mail.specs.Mails.{MailState, entering_of, issued_of, taken_of}
use Rattle.bmx_node.specs.declared.holdings.Holdings.{Holdings}
use Rattle.bmx_node.specs.Seen.{state_of, places_of, limit_of}
use Rattle.bmx_node.specs.Inside.Keeping.{IsFit, Frame}
use Rattle.bmx_node.specs.Inside.Hearing.{IsNotToCome, CanHear, Rooms, AgreeBut, KeepsBut, KeepsMost}
use Rattle.bmx_node.proofs.Puts.{put_here, put_apart}
use Rattle.bmx_node.proofs.Fitting.{fit_child, no_owner}
use Rattle.bmx_node.proofs.Agreeing.{some_same, known_turned}

-- ## what has to be shown first

pub or_left : (a b : Bool) → (a || b) ≡ false → a ≡ false
or_left true b e = absurd (false≢true (sym e))
or_left false b e = refl

pub or_right : (a b : Bool) → (a || b) ≡ false → b ≡ false
or_right true b e = absurd (false≢true (sym e))
or_right false b e = e

or_false : (a : Bool) → a ≡ false → (a || false) ≡ false
or_false true e = absurd (false≢true (sym e))
or_false false e = refl

pub can_few : (h : Holdings) (from : ℕ) (info : Info) → CanHear h from (info ∷ []) → info.size ≤ 32
can_few h from info can = All-head (λ (i : Info). i.size ≤ 32) info [] can.small

pub can_fit : (h : Holdings) (from : ℕ) (info : Info) → KeepsMost h → CanHear h from (info ∷ []) → Fits (shown h.memory) info
unfolding state_of places_of
can_fit h from info keeps can = record {
  parts = part_at h.tokens;
  none = ap (λ (me : ℕ). clashes me (known_with (shown h.memory).object (part_at h.tokens)) (shown h.memory).places info) keeps.1.me
      ∙ or_left (clashes h.me (known_with (shown h.memory).object (part_at h.tokens)) (shown h.memory).places info) false can.fits;
}

-- ## one object

-- a name that becomes known
module _ (object : ℕ → Option Object) (part : ℕ → Option Part) (name : ℕ) (o : Object) (q : Part) where
  same_added : ((x : ℕ) → is_some (part x) ≡ is_some (object x)) → (x : ℕ) → is_some (put part name (Some q) x) ≡ is_some (put object name (Some o) x)
  same_added same x = ⊎_elim
      (λ (e : name ≡ x). ap is_some (put_here part name x (Some q) e) ∙ sym (ap is_some (put_here object name x (Some o) e)))
      (λ (ne : name ≡ x → ⊥). ap is_some (put_apart part name x (Some q) ne) ∙ same x ∙ sym (ap is_some (put_apart object name x (Some o) ne)))
      (cases_eq name x)

  agree_added : (but me made bunches : ℕ) → AgreeBut but me made bunches object part → IsNotToCome me made name → IsFit q → (q.role ≡ Owner → ⊥) →
      AgreeBut but me made bunches (put object name (Some o)) (put part name (Some q))
  agree_added but me made bunches old past fit child = record {
    same = same_added old.same;
    fit = λ x p is. ⊎_elim
        (λ (e : name ≡ x). let same : q ≡ p = some_same q p (sym (put_here part name x (Some q) e) ∙ is) in subst IsFit same fit)
        (λ (ne : name ≡ x → ⊥). old.fit x p (sym (put_apart part name x (Some q) ne) ∙ is))
        (cases_eq name x);
    owners = λ x p apart is own. ⊎_elim
        (λ (e : name ≡ x). let same : q ≡ p = some_same q p (sym (put_here part name x (Some q) e) ∙ is) in absurd (child (ap (λ (y : Part). y.role) same ∙ own)))
        (λ (ne : name ≡ x → ⊥). ap (λ (y : Option Object). option_map_or (λ (z : Object). is_some z.copy) y false) (put_apart object name x (Some o) ne)
        ∙ old.owners x p apart (sym (put_apart part name x (Some q) ne) ∙ is) own)
        (cases_eq name x);
    fresh = λ count above below. ⊎_elim
        (λ (e : name ≡ name_word me count).
        let its : maker name ≡ me = ap maker e ∙ div-mul-add me (2 ^ 56) count below in
        let number : count_of name ≡ count = ap count_of e ∙ mod-mul-add me (2 ^ 56) count below in
        let most : count_of name ≤ made = past its in
        absurd (omega (arith, above, subst (λ (n : ℕ). n ≤ made) number most)))
        (λ (ne : name ≡ name_word me count → ⊥). put_apart object name (name_word me count) (Some o) ne ∙ old.fresh count above below)
        (cases_eq name (name_word me count));
    anchors = λ bunch below. ⊎_elim
        (λ (e : name ≡ anchor_of bunch). subst IsSome (sym (put_here object name (anchor_of bunch) (Some o) e)) refl)
        (λ (ne : name ≡ anchor_of bunch → ⊥). subst IsSome (sym (put_apart object name (anchor_of bunch) (Some o) ne)) (old.anchors bunch below))
        (cases_eq name (anchor_of bunch));
  }

some_mapped : (p : Part) (o : Option Object) → is_some (option_map (known_as p) o) ≡ is_some o
some_mapped p None = refl
some_mapped p (Some o) = refl

-- a node knows a name just where it has a token
pub known_some : (h : Holdings) (name : ℕ) (b : Bool) → is_some ((shown h.memory).object name) ≡ b → is_some ((state_of h).known name) ≡ b
unfolding state_of
known_some h name b is = some_mapped (part_at h.tokens name) ((shown h.memory).object name) ∙ is

module _ (h : Holdings) (c : Contents) (from : ℕ) (info : Info) (keeps : KeepsMost h) (learnt : shown c ≡ with_info (shown h.memory) info) where
  new_object : Object
  new_object = record { bunch = info.bunch; size = info.size; copy = None }

  told : (b : Bool) → is_some ((shown h.memory).object info.name) ≡ b → object_told (shown h.memory).object info ≡ cond b (shown h.memory).object (put (shown h.memory).object info.name (Some (record { bunch = info.bunch; size = info.size; copy = None })))
  told b is = ap (λ (x : Bool). if x then (shown h.memory).object else put (shown h.memory).object info.name (Some (record { bunch = info.bunch; size = info.size; copy = None }))) is

  hears : (b : Bool) → is_some ((shown h.memory).object info.name) ≡ b → heard from (state_of h).known info ≡ cond b (state_of h).known (put (state_of h).known info.name (Some (heard_of from info)))
  hears b is = ap (λ (x : Bool). if x then (state_of h).known else put (state_of h).known info.name (Some (heard_of from info))) (known_some h info.name b is)

  pub hears_places : (t : Table) → places_of (record h { memory = c; tokens = t }) ≡ with_learnt (places_of h) info
  unfolding places_of
  hears_places t = ap (λ (m : Shown). m.places) learnt

  pub hears_frame : (t : Table) → Frame h (record h { memory = c; tokens = t })
  unfolding limit_of
  hears_frame t = record { me = refl; store = refl; limit = ap (λ (m : Shown). m.limit) learnt; clock = refl }

  -- one that is known stays
  module _ (there : IsSome (part_of h.tokens info.name)) where
    has : is_some ((shown h.memory).object info.name) ≡ true
    has = sym (keeps.1.agree.same info.name) ∙ by (part_of h.tokens info.name) there
      where
        by : (x : Option Part) → IsSome x → is_some x ≡ true
        by None s = absurd (false≢true s)
        by (Some p) s = refl

    pub known_state : state_of (record h { memory = c }) ≡ after_changes (state_of h) (Hears from info ∷ [])
    unfolding state_of
    known_state = λ i. record {
      known = (
          (λ j. known_with (learnt j).object (part_at h.tokens))
          ∙ ap (λ (f : ℕ → Option Object). known_with f (part_at h.tokens)) (told true has)
          ∙ sym (hears true has)
          ) i;
      register = (learnt i).register;
      entering = entering_of h.mail;
      issued = issued_of h.mail;
      taken = taken_of h.mail;
      clock = h.clock;
      made = h.made;
    }

    pub known_keeps : (but : ℕ) → KeepsBut but h → KeepsBut but (record h { memory = c })
    known_keeps but k = record {
      me = ap (λ (m : Shown). m.me) learnt ∙ k.me;
      tokens = k.tokens;
      few = k.few;
      agree = subst (λ (f : ℕ → Option Object). AgreeBut but h.me h.made h.store.bunches f (part_of h.tokens)) (sym (ap (λ (m : Shown). m.object) learnt ∙ told true has)) k.agree;
    }

  -- another is known from now on
  module _ (t : Table) (none : part_of h.tokens info.name ≡ None) (added : part_of t ≡ put (part_of h.tokens) info.name (Some (child_part from))) (same : t.me ≡ h.tokens.me) where
    lacks : is_some ((shown h.memory).object info.name) ≡ false
    lacks = sym (keeps.1.agree.same info.name) ∙ ap is_some none

    pub added_state : state_of (record h { memory = c; tokens = t }) ≡ after_changes (state_of h) (Hears from info ∷ [])
    unfolding state_of
    added_state = λ i. record {
      known = (
          (λ j. known_with (learnt j).object (λ x. unwrap_or (added j x) owner_part))
          ∙ ap (λ (f : ℕ → Option Object). known_with f (λ x. unwrap_or (put (part_of h.tokens) info.name (Some (child_part from)) x) owner_part)) (told false lacks)
          ∙ known_turned (shown h.memory).object (part_of h.tokens) info.name (record { bunch = info.bunch; size = info.size; copy = None }) (child_part from)
          ∙ sym (hears false lacks)
          ) i;
      register = (learnt i).register;
      entering = entering_of h.mail;
      issued = issued_of h.mail;
      taken = taken_of h.mail;
      clock = h.clock;
      made = h.made;
    }

    pub added_keeps : IsNotToCome h.me h.made info.name → (but : ℕ) → KeepsBut but h → KeepsBut but (record h { memory = c; tokens = t })
    added_keeps past but k = record {
      me = ap (λ (m : Shown). m.me) learnt ∙ k.me;
      tokens = same ∙ k.tokens;
      few = k.few;
      agree =
          subst (λ (f : ℕ → Option Object). AgreeBut but h.me h.made h.store.bunches f (part_of t)) (sym (ap (λ (m : Shown). m.object) learnt ∙ told false lacks))
          (subst (AgreeBut but h.me h.made h.store.bunches (put (shown h.memory).object info.name (Some (record { bunch = info.bunch; size = info.size; copy = None })))) (sym added)
          (agree_added (shown h.memory).object (part_of h.tokens) info.name (record { bunch = info.bunch; size = info.size; copy = None }) (child_part from) but h.me h.made h.store.bunches k.agree past (fit_child from) (no_owner from)));
    }

pub can_past : (h : Holdings) (from : ℕ) (info : Info) → CanHear h from (info ∷ []) → IsNotToCome h.me h.made info.name
can_past h from info can = All-head (λ (i : Info). IsNotToCome h.me h.made i.name) info [] can.made

-- ## one after another

-- the first of more, and then the others
pub first_can : (h : Holdings) (from : ℕ) (info : Info) (more : List Info) → CanHear h from (info ∷ more) → CanHear h from (info ∷ [])
first_can h from info more can = record {
  fits = or_false (clashes h.me (state_of h).known (places_of h) info) (or_left (clashes h.me (state_of h).known (places_of h) info) _ can.fits);
  small = All-cons (λ (i : Info). i.size ≤ 32) info [] (All-head (λ (i : Info). i.size ≤ 32) info more can.small) (λ k d few. absurd (omega (arith, few)));
  made = All-cons (λ (i : Info). IsNotToCome h.me h.made i.name) info [] (All-head (λ (i : Info). IsNotToCome h.me h.made i.name) info more can.made) (λ k d few. absurd (omega (arith, few)));
}

pub then_can : (h new : Holdings) (from : ℕ) (info : Info) (more : List Info) → CanHear h from (info ∷ more) →
    new.me ≡ h.me → new.made ≡ h.made → state_of new ≡ after_changes (state_of h) (Hears from info ∷ []) → places_of new ≡ with_learnt (places_of h) info → CanHear new from more
then_can h new from info more can me made state places = record {
  fits = (λ i. some_clash (me i) from (state i).known (places i) more) ∙ or_right (clashes h.me (state_of h).known (places_of h) info) _ can.fits;
  small = All-tail (λ (i : Info). i.size ≤ 32) info more can.small;
  made = subst (λ (n : ℕ). All (λ (i : Info). IsNotToCome new.me n i.name) more) (sym made) (subst (λ (n : ℕ). All (λ (i : Info). IsNotToCome n h.made i.name) more) (sym me) (All-tail (λ (i : Info). IsNotToCome h.me h.made i.name) info more can.made));
}

pub first_room : (h : Holdings) (n : ℕ) → Rooms h (n + 1) → Rooms h 1
first_room h n r = record { objects = omega (arith, r.objects); tokens = omega (arith, r.tokens) }

-- some of the Infos were heard, and these are left
pub record Hearings (old now : Holdings) (from : ℕ) (left all : List Info) : Type 0 where
  pub state : after_changes (state_of now) (map (Hears from) left) ≡ after_changes (state_of old) (map (Hears from) all)
  pub places : with_all_learnt (places_of now) left ≡ with_all_learnt (places_of old) all
  pub can : CanHear now from left
  pub rooms : Rooms now (length left)
  pub mail : now.mail ≡ old.mail
  pub made : now.made ≡ old.made
  pub most : KeepsMost now
  pub keeps : (but : ℕ) → KeepsBut but old → KeepsBut but now
  pub frame : Frame old now

pub hearings_start : (h : Holdings) (from : ℕ) (all : List Info) → CanHear h from all → Rooms h (length all) → KeepsMost h → Hearings h h from all all
hearings_start h from all can rooms most = record {
  state = refl;
  places = refl;
  can = can;
  rooms = rooms;
  mail = refl;
  made = refl;
  most = most;
  keeps = λ but k. k;
  frame = record { me = refl; store = refl; limit = refl; clock = refl };
}

pub hearings_more : (old mid new : Holdings) (from : ℕ) (info : Info) (left all : List Info) → Hearings old mid from (info ∷ left) all →
    state_of new ≡ after_changes (state_of mid) (Hears from info ∷ []) → places_of new ≡ with_learnt (places_of mid) info →
    ((n : ℕ) → Rooms mid (n + 1) → Rooms new n) → new.mail ≡ mid.mail → new.made ≡ mid.made →
    ((but : ℕ) → KeepsBut but mid → KeepsBut but new) → Frame mid new → Hearings old new from left all
hearings_more old mid new from info left all before state places rooms mail made keeps frame = record {
  state = ap (λ (s : NodeState). after_changes s (map (Hears from) left)) state ∙ before.state;
  places = ap (λ (a : Places). with_all_learnt a left) places ∙ before.places;
  can = then_can mid new from info left before.can frame.me made state places;
  rooms = rooms (length left) (subst (Rooms mid) (omega arith) before.rooms);
  mail = mail ∙ before.mail;
  made = made ∙ before.made;
  most = (before.most.0, keeps before.most.0 before.most.1);
  keeps = λ but k. keeps but (before.keeps but k);
  frame = record { me = frame.me ∙ before.frame.me; store = frame.store ∙ before.frame.store; limit = frame.limit ∙ before.frame.limit; clock = frame.clock ∙ before.frame.clock };
}

-- ## the Infos of fields

module _ (fields : List Field) (k : ℕ) (f : Field) (lt : k < length fields) (is : f ≡ get_or fields k f) where
  rest : drop k fields ≡ f ∷ drop (k + 1) fields
  rest = drop_more fields k f lt ∙ ap (λ (g : Field). g ∷ drop (k + 1) fields) (sym is)

  -- a reference brings one
  pub left_ref : (info : Info) → f ≡ msg_field.Ref info → filter_map info_in (drop k fields) ≡ info ∷ filter_map info_in (drop (k + 1) fields)
  left_ref info ref = ap (filter_map info_in) rest ∙ ap (λ (g : Field). filter_map info_in (g ∷ drop (k + 1) fields)) ref

  -- another field none
  pub left_other : ((info : Info) → f ≡ msg_field.Ref info → ⊥) → filter_map info_in (drop k fields) ≡ filter_map info_in (drop (k + 1) fields)
  left_other never = ap (filter_map info_in) rest ∙ by f refl
    where
      by : (g : Field) → f ≡ g → filter_map info_in (g ∷ drop (k + 1) fields) ≡ filter_map info_in (drop (k + 1) fields)
      by msg_field.Null e = refl
      by (msg_field.Int n) e = refl
      by (msg_field.Ref info) e = absurd (never info e)
