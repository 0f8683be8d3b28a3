-- A grant: what it tells of is heard, and its copy is taken in.
use Rattle.std.proofs.Math.Path.{fun_ext}
use Rattle.std.proofs.lemmas.Bool.{cases_eq, eqb-true, false≢true}
use Rattle.std.proofs.lemmas.List.Elements.{All-cons}
use Rattle.std.proofs.lemmas.List.Sums.{fold-append}
use Rattle.std.proofs.Common.{◌≡◌, ℕ, ◌+◌, ◌<◌, ◌==◌, ◌&&◌, ◌||◌, not, Bool, true, false, if◌then◌else◌, List, [], ◌∷◌, ◌++◌, length, map, filter_map, Option, Some, None, IsSome, is_some, unwrap_or, refl, sym, ◌∙◌, ap, subst, cond, ⊎_elim, arith}
use Rattle.std.specs.Prelude.{All, IsSomeAnd, slice_index_or}
use Rattle.std.specs.Option.{option_map, option_map_or}
use Rattle.bmx_types.specs.Updates.{put}
use Rattle.bmx_types.specs.Words.{name_word, anchor_of}
use Rattle.bmx_types.specs.declared.addresses.Info.{Info}
use Rattle.bmx_msg.specs.declared.letters.Field.{Field}
use Rattle.bmx_msg.specs.declared.letters.Field.TheVariants as msg_field
use Rattle.bmx_msg.specs.Letters.{targets}
use Rattle.bmx_token.specs.declared.parts.Part.{Part}
use Rattle.bmx_token.specs.declared.parts.Role.TheVariants.{Owner}
use Rattle.bmx_tokens.specs.Tables.{part_of, part_at}
use Rattle.bmx_protocol.specs.declared.views.ViewField.{ViewField}
use Rattle.bmx_protocol.specs.Nodes.{NodeState, Known, value_in}
use Rattle.bmx_protocol.specs.Places.{Places, differs, with_learnt, with_all_learnt, clashes_at}
use Rattle.bmx_protocol.specs.Changes.{Knows, Hears, heard, heard_of, after_change, after_changes}
use Rattle.bmx_protocol.specs.Rules.{info_in, heard_field}
use Rattle.bmx_protocol.specs.Strays.{clashes, some_clash}
use Rattle.bmx_memory.specs.Contents.{Contents}
use Rattle.bmx_memory.specs.Shown.{Object, Shown, HasEntry, shown, known_with, known_as, with_fields, with_copy}
use Rattle.bmx_memory.specs.Letters.{FitsFields}
use Rattle.bmx_mail.specs.Mails.{entering_of, issued_of, taken_of}
use Rattle.bmx_node.specs.declared.holdings.Holdings.{Holdings}
use Rattle.bmx_node.specs.Seen.{state_of, places_of, limit_of}
use Rattle.bmx_node.specs.Inside.Keeping.{IsFit, Agree, Keeps, Frame}
use Rattle.bmx_node.specs.Inside.Hearing.{CanHear, Rooms, AgreeBut, KeepsBut}
use Rattle.bmx_node.proofs.Puts.{put_here, put_apart}
use Rattle.bmx_node.proofs.Agreeing.{some_same}
use Rattle.bmx_node.proofs.Hearing.{or_left, known_some, then_can}

-- ## what hearing leaves

-- a name that is known stays as it is
heard_stays : (from : ℕ) (known : ℕ → Option Known) (info : Info) (name : ℕ) (k : Known) → known name ≡ Some k → heard from known info name ≡ Some k
heard_stays from known info name k is = by (is_some (known info.name)) refl
  where
    by : (b : Bool) → is_some (known info.name) ≡ b → (if b then known else put known info.name (Some (heard_of from info))) name ≡ Some k
    by true e = is
    by false e = ⊎_elim
        (λ (same : info.name ≡ name). absurd (false≢true (sym e ∙ ap (λ (x : ℕ). is_some (known x)) same ∙ ap is_some is)))
        (λ (ne : info.name ≡ name → ⊥). put_apart known info.name name (Some (heard_of from info)) ne ∙ is)
        (cases_eq info.name name)

pub hears_stay : (s : NodeState) (from : ℕ) (all : List Info) (name : ℕ) (k : Known) → s.known name ≡ Some k → (after_changes s (map (Hears from) all)).known name ≡ Some k
hears_stay s from [] name k is = is
hears_stay s from (info ∷ all) name k is = hears_stay (after_change s (Hears from info)) from all name k (heard_stays from s.known info name k is)

-- what is told of becomes known
heard_there : (from : ℕ) (known : ℕ → Option Known) (info : Info) → is_some (heard from known info info.name) ≡ true
heard_there from known info = by (is_some (known info.name)) refl
  where
    by : (b : Bool) → is_some (known info.name) ≡ b → is_some ((if b then known else put known info.name (Some (heard_of from info))) info.name) ≡ true
    by true e = e
    by false e = ap is_some (put_here known info.name info.name (Some (heard_of from info)) refl)

there_known : (o : Option Known) → is_some o ≡ true → (k : Known) × (o ≡ Some k)
there_known None e = absurd (false≢true e)
there_known (Some k) e = (k, refl)

-- a field refers to a name that is known, if to any
abbrev HasName : (ℕ → Option Known) → Field → Type 0
HasName known msg_field.Null = Unit {0}
HasName known (msg_field.Int n) = Unit {0}
HasName known (msg_field.Ref info) = is_some (known info.name) ≡ true

pub hears_all : (s : NodeState) (from : ℕ) (fields : List Field) → All (HasName (after_changes s (map (Hears from) (filter_map info_in fields))).known) fields
hears_all s from [] = λ k d few. absurd (omega (arith, few))
hears_all s from (msg_field.Null ∷ fields) = All-cons (HasName (after_changes s (map (Hears from) (filter_map info_in fields))).known) msg_field.Null fields tt (hears_all s from fields)
hears_all s from (msg_field.Int n ∷ fields) = All-cons (HasName (after_changes s (map (Hears from) (filter_map info_in fields))).known) (msg_field.Int n) fields tt (hears_all s from fields)
hears_all s from (msg_field.Ref info ∷ fields) =
    let t : NodeState = after_change s (Hears from info) in
    let first : (k : Known) × (t.known info.name ≡ Some k) = there_known (t.known info.name) (heard_there from s.known info) in
    All-cons (HasName (after_changes t (map (Hears from) (filter_map info_in fields))).known) (msg_field.Ref info) fields
    (ap is_some (hears_stay t from (filter_map info_in fields) info.name first.0 first.1)) (hears_all t from fields)

-- ## hearing beside a change of what is known already

put_twice : (known : ℕ → Option Known) (name : ℕ) (a b : Option Known) → put (put known name a) name b ≡ put known name b
put_twice known name a b = fun_ext (λ x. ⊎_elim
    (λ (e : name ≡ x). put_here (put known name a) name x b e ∙ sym (put_here known name x b e))
    (λ (ne : name ≡ x → ⊥). put_apart (put known name a) name x b ne ∙ put_apart known name x a ne ∙ sym (put_apart known name x b ne))
    (cases_eq name x))

put_swap : (known : ℕ → Option Known) (one two : ℕ) (a b : Option Known) → (one ≡ two → ⊥) → put (put known one a) two b ≡ put (put known two b) one a
put_swap known one two a b apart = fun_ext (λ x. ⊎_elim
    (λ (e : two ≡ x).
    put_here (put known one a) two x b e ∙ sym (put_here known two x b e)
    ∙ sym (put_apart (put known two b) one x a (λ (f : one ≡ x). apart (f ∙ sym e))))
    (λ (ne : two ≡ x → ⊥).
    put_apart (put known one a) two x b ne
    ∙ ⊎_elim
    (λ (f : one ≡ x). put_here known one x a f ∙ sym (put_here (put known two b) one x a f))
    (λ (other : one ≡ x → ⊥). put_apart known one x a other ∙ sym (put_apart known two x b ne) ∙ sym (put_apart (put known two b) one x a other))
    (cases_eq one x))
    (cases_eq two x))

heard_beside : (from : ℕ) (known : ℕ → Option Known) (info : Info) (name : ℕ) (k a : Known) → known name ≡ Some k →
    heard from (put known name (Some a)) info ≡ put (heard from known info) name (Some a)
heard_beside from known info name k a is = ⊎_elim
    (λ (e : name ≡ info.name).
    choose (put known name (Some a)) true (ap is_some (put_here known name info.name (Some a) e))
    ∙ sym (ap (λ (f : ℕ → Option Known). put f name (Some a)) (choose known true (ap (λ (x : ℕ). is_some (known x)) (sym e) ∙ ap is_some is))))
    (λ (ne : name ≡ info.name → ⊥). by ne (is_some (known info.name)) refl)
    (cases_eq name info.name)
  where
    choose : (f : ℕ → Option Known) (b : Bool) → is_some (f info.name) ≡ b → heard from f info ≡ (if b then f else put f info.name (Some (heard_of from info)))
    choose f b e = ap (λ (x : Bool). if x then f else put f info.name (Some (heard_of from info))) e

    by : (name ≡ info.name → ⊥) → (b : Bool) → is_some (known info.name) ≡ b → heard from (put known name (Some a)) info ≡ put (heard from known info) name (Some a)
    by ne true e =
        choose (put known name (Some a)) true (ap is_some (put_apart known name info.name (Some a) ne) ∙ e)
        ∙ sym (ap (λ (f : ℕ → Option Known). put f name (Some a)) (choose known true e))
    by ne false e =
        choose (put known name (Some a)) false (ap is_some (put_apart known name info.name (Some a) ne) ∙ e)
        ∙ put_swap known name info.name (Some a) (Some (heard_of from info)) ne
        ∙ sym (ap (λ (f : ℕ → Option Known). put f name (Some a)) (choose known false e))

hears_beside : (s : NodeState) (from : ℕ) (all : List Info) (name : ℕ) (k a : Known) → s.known name ≡ Some k →
    after_changes (after_change s (Knows name a)) (map (Hears from) all) ≡ after_change (after_changes s (map (Hears from) all)) (Knows name a)
hears_beside s from [] name k a is = refl
hears_beside s from (info ∷ all) name k a is =
    ap (λ (f : ℕ → Option Known). after_changes (record s { known = f }) (map (Hears from) all)) (heard_beside from s.known info name k a is)
    ∙ hears_beside (after_change s (Hears from info)) from all name k a (heard_stays from s.known info name k is)

-- what was known of a name before plays no part once more is known of it
pub hears_under : (s : NodeState) (from : ℕ) (all : List Info) (name : ℕ) (k a b : Known) → s.known name ≡ Some k →
    after_change (after_changes (after_change s (Knows name a)) (map (Hears from) all)) (Knows name b) ≡ after_change (after_changes s (map (Hears from) all)) (Knows name b)
hears_under s from all name k a b is =
    ap (λ (t : NodeState). after_change t (Knows name b)) (hears_beside s from all name k a is)
    ∙ ap (λ (f : ℕ → Option Known). record (after_changes s (map (Hears from) all)) { known = f }) (put_twice (after_changes s (map (Hears from) all)).known name (Some a) (Some b))

-- ## clashes beside it

-- two know the same objects, of the same bunches and sizes
abbrev shape : Known → ℕ × ℕ
shape k = (k.bunch, k.size)

abbrev Alike : (ℕ → Option Known) → (ℕ → Option Known) → Type 0
Alike one two = (x : ℕ) → option_map shape (one x) ≡ option_map shape (two x)

shape_some : (o : Option Known) → is_some (option_map shape o) ≡ is_some o
shape_some None = refl
shape_some (Some k) = refl

shape_differs : (info : Info) (o : Option Known) → option_map_or (λ (k : Known). differs k info) o false ≡ option_map_or (λ (p : ℕ × ℕ). not (p.0 == info.bunch && p.1 == info.size)) (option_map shape o) false
shape_differs info None = refl
shape_differs info (Some k) = refl

alike_heard : (from : ℕ) (one two : ℕ → Option Known) (info : Info) → Alike one two → Alike (heard from one info) (heard from two info)
alike_heard from one two info alike x =
    let same : is_some (one info.name) ≡ is_some (two info.name) = sym (shape_some (one info.name)) ∙ ap is_some (alike info.name) ∙ shape_some (two info.name) in
    ap (λ (b : Bool). option_map shape ((if b then one else put one info.name (Some (heard_of from info))) x)) same ∙ by (is_some (two info.name))
  where
    by : (b : Bool) → option_map shape ((if b then one else put one info.name (Some (heard_of from info))) x) ≡ option_map shape ((if b then two else put two info.name (Some (heard_of from info))) x)
    by true = alike x
    by false = ⊎_elim
        (λ (e : info.name ≡ x). ap (option_map shape) (put_here one info.name x (Some (heard_of from info)) e ∙ sym (put_here two info.name x (Some (heard_of from info)) e)))
        (λ (ne : info.name ≡ x → ⊥).
        ap (option_map shape) (put_apart one info.name x (Some (heard_of from info)) ne) ∙ alike x
        ∙ sym (ap (option_map shape) (put_apart two info.name x (Some (heard_of from info)) ne)))
        (cases_eq info.name x)

alike_clash : (me from : ℕ) (one two : ℕ → Option Known) (a : Places) (all : List Info) → Alike one two → some_clash me from one a all ≡ some_clash me from two a all
alike_clash me from one two a [] alike = refl
alike_clash me from one two a (info ∷ all) alike =
    let first : option_map_or (λ (k : Known). differs k info) (one info.name) false ≡ option_map_or (λ (k : Known). differs k info) (two info.name) false =
    shape_differs info (one info.name) ∙ ap (λ (o : Option (ℕ × ℕ)). option_map_or (λ (p : ℕ × ℕ). not (p.0 == info.bunch && p.1 == info.size)) o false) (alike info.name)
    ∙ sym (shape_differs info (two info.name)) in
    let rest : some_clash me from (heard from one info) (with_learnt a info) all ≡ some_clash me from (heard from two info) (with_learnt a info) all =
    alike_clash me from (heard from one info) (heard from two info) (with_learnt a info) all (alike_heard from one two info alike) in
    λ i. (first i || clashes_at me a info (a.place info.name)) || rest i

-- the token of a known name may change before
pub can_still : (h new : Holdings) (from : ℕ) (all : List Info) (name : ℕ) (k : Known) (q : Part) → CanHear h from all → new.me ≡ h.me → new.made ≡ h.made →
    (state_of h).known name ≡ Some k → state_of new ≡ after_change (state_of h) (Knows name (record k { part = q })) → places_of new ≡ places_of h → CanHear new from all
can_still h new from all name k q can me made known state places = record {
  fits = (λ i. some_clash (me i) from (state i).known (places i) all)
      ∙ alike_clash h.me from (put (state_of h).known name (Some (record k { part = q }))) (state_of h).known (places_of h) all
      (λ x. ⊎_elim
      (λ (e : name ≡ x). ap (option_map shape) (put_here (state_of h).known name x (Some (record k { part = q })) e) ∙ ap (option_map shape) (sym known ∙ ap (state_of h).known e))
      (λ (ne : name ≡ x → ⊥). ap (option_map shape) (put_apart (state_of h).known name x (Some (record k { part = q })) ne))
      (cases_eq name x))
      ∙ can.fits;
  small = can.small;
  made = subst (λ (n : ℕ). All (λ (i : Info). Rattle.bmx_node.specs.Inside.Hearing.IsNotToCome new.me n i.name) all) (sym made)
      (subst (λ (n : ℕ). All (λ (i : Info). Rattle.bmx_node.specs.Inside.Hearing.IsNotToCome n h.made i.name) all) (sym me) can.made);
}

-- what doesn't clash is of the bunch and the size that are known
not_differs : (a b : Bool) → not (a && b) ≡ false → (a ≡ true) × (b ≡ true)
not_differs true true e = (refl, refl)
not_differs true false e = absurd (false≢true (sym e))
not_differs false b e = absurd (false≢true (sym e))

pub same_shape : (h : Holdings) (from : ℕ) (info : Info) (more : List Info) (k : Known) → CanHear h from (info ∷ more) → (state_of h).known info.name ≡ Some k → (k.bunch ≡ info.bunch) × (k.size ≡ info.size)
same_shape h from info more k can known =
    let clash : clashes h.me (state_of h).known (places_of h) info ≡ false = or_left (clashes h.me (state_of h).known (places_of h) info) _ can.fits in
    let apart : differs k info ≡ false = sym (ap (λ (o : Option Known). option_map_or (λ (j : Known). differs j info) o false) known) ∙ or_left (option_map_or (λ (j : Known). differs j info) ((state_of h).known info.name) false) _ clash in
    let both : ((k.bunch == info.bunch) ≡ true) × ((k.size == info.size) ≡ true) = not_differs (k.bunch == info.bunch) (k.size == info.size) apart in
    (eqb-true k.bunch info.bunch both.0, eqb-true k.size info.size both.1)

-- ## the copy

-- as many names are told of as fields refer to
pub targets_told : (fields : List Field) → length (targets fields) ≡ length (filter_map info_in fields)
targets_told [] = refl
targets_told (msg_field.Null ∷ fields) = targets_told fields
targets_told (msg_field.Int n ∷ fields) = targets_told fields
targets_told (msg_field.Ref info ∷ fields) = ap (λ (n : ℕ). Rattle.std.proofs.Common.suc n) (targets_told fields)

size_known : (p : Part) (o : Option Object) (k : Known) (n : ℕ) → option_map (known_as p) o ≡ Some k → n ≡ k.size → IsSomeAnd o (λ (b : Object). n ≡ b.size)
size_known p None k n e is = absurd (false≢true (ap is_some e))
size_known p (Some o) k n e is = is ∙ sym (ap (λ (x : Option Known). (unwrap_or x k).size) e)

entry_there : (m : Shown) (known : ℕ → Option Known) → ((x : ℕ) → is_some (known x) ≡ is_some (m.object x)) → (f : Field) → HasName known f → HasEntry m (value_in (heard_field f))
entry_there m known same msg_field.Null has = tt
entry_there m known same (msg_field.Int n) has = tt
entry_there m known same (msg_field.Ref info) has = by (m.object info.name) (sym (same info.name) ∙ has)
  where
    by : (o : Option Object) → is_some o ≡ true → IsSome o
    by None e = absurd (false≢true e)
    by (Some o) e = refl

pub fits_fields : (h now : Holdings) (from name : ℕ) (fields : List Field) (k : Known) (before : NodeState) → state_of now ≡ after_changes before (map (Hears from) (filter_map info_in fields)) →
    before.known name ≡ Some k → length fields ≡ k.size → FitsFields (shown now.memory) name fields
unfolding state_of
fits_fields h now from name fields k before state known size = record {
  size = size_known (part_at now.tokens name) ((shown now.memory).object name) k (length fields)
      (ap (λ (s : NodeState). s.known name) state ∙ hears_stay before from (filter_map info_in fields) name k known) size;
  known = λ i d lt. entry_there (shown now.memory) (state_of now).known (λ x. known_some now x (is_some ((shown now.memory).object x)) refl) (slice_index_or fields i d)
      (subst (λ (s : NodeState). HasName s.known (slice_index_or fields i d)) (sym state) (hears_all before from fields i d lt));
}

-- what is known once the copy is there
copy_known : (p : Part) (o : Option Object) (k : Known) (c : Option (List ViewField)) → option_map (known_as p) o ≡ Some k → option_map (known_as p) (option_map (with_fields c) o) ≡ Some (record k { copy = c })
copy_known p None k c e = absurd (false≢true (ap is_some e))
copy_known p (Some o) k c e = ap (λ (x : Option Known). Some (record (unwrap_or x k) { copy = c })) e

copied_known : (object : ℕ → Option Object) (parts : ℕ → Part) (name : ℕ) (k : Known) (c : Option (List ViewField)) → known_with object parts name ≡ Some k →
    known_with (put object name (option_map (with_fields c) (object name))) parts ≡ put (known_with object parts) name (Some (record k { copy = c }))
copied_known object parts name k c known = fun_ext (λ x. ⊎_elim
    (λ (e : name ≡ x).
    ap (option_map (known_as (parts x))) (put_here object name x (option_map (with_fields c) (object name)) e)
    ∙ ap (λ (y : ℕ). option_map (known_as (parts y)) (option_map (with_fields c) (object name))) (sym e)
    ∙ copy_known (parts name) (object name) k c known
    ∙ sym (put_here (known_with object parts) name x (Some (record k { copy = c })) e))
    (λ (ne : name ≡ x → ⊥).
    ap (option_map (known_as (parts x))) (put_apart object name x (option_map (with_fields c) (object name)) ne)
    ∙ sym (put_apart (known_with object parts) name x (Some (record k { copy = c })) ne))
    (cases_eq name x))

module _ (h : Holdings) (c : Contents) (name : ℕ) (k : Known) (fields : List ViewField) (known : (state_of h).known name ≡ Some k) (installed : shown c ≡ with_copy (shown h.memory) name (Some fields)) where
  pub copied_state : state_of (record h { memory = c }) ≡ after_change (state_of h) (Knows name (record k { copy = Some fields }))
  unfolding state_of
  copied_state = λ i. record {
    known = ((λ j. known_with (installed j).object (part_at h.tokens)) ∙ copied_known (shown h.memory).object (part_at h.tokens) name k (Some fields) known) i;
    register = (installed i).register;
    entering = entering_of h.mail;
    issued = issued_of h.mail;
    taken = taken_of h.mail;
    clock = h.clock;
    made = h.made;
  }

  pub copied_places : places_of (record h { memory = c }) ≡ places_of h
  unfolding places_of
  copied_places = ap (λ (m : Shown). m.places) installed

  pub copied_frame : Frame h (record h { memory = c })
  unfolding limit_of
  copied_frame = record { me = refl; store = refl; limit = ap (λ (m : Shown). m.limit) installed; clock = refl }

  pub copied_keeps : KeepsBut name h → Keeps (record h { memory = c })
  unfolding state_of
  copied_keeps keeps = record {
    me = ap (λ (m : Shown). m.me) installed ∙ keeps.me;
    tokens = keeps.tokens;
    few = keeps.few;
    agree = subst (λ (m : Shown). Agree h.me h.made h.store.bunches m.object (part_of h.tokens)) (sym installed) (whole (shown h.memory).object (part_of h.tokens) keeps.agree (has (part_at h.tokens name) ((shown h.memory).object name) known));
  }
    where
      copies : Option Object → Bool
      copies x = option_map_or (λ (o : Object). is_some o.copy) x false

      has : (p : Part) (o : Option Object) → option_map (known_as p) o ≡ Some k → is_some o ≡ true
      has p None e = absurd (false≢true (ap is_some e))
      has p (Some o) e = refl

      same : (o : Option Object) → is_some (option_map (with_fields (Some fields)) o) ≡ is_some o
      same None = refl
      same (Some o) = refl

      full : (o : Option Object) → is_some o ≡ true → option_map_or (λ (b : Object). is_some b.copy) (option_map (with_fields (Some fields)) o) false ≡ true
      full None e = absurd (false≢true e)
      full (Some o) e = refl

      still : (o : Option Object) → IsSome o → IsSome (option_map (with_fields (Some fields)) o)
      still None s = absurd (false≢true s)
      still (Some o) s = refl

      whole : (object : ℕ → Option Object) (part : ℕ → Option Part) → AgreeBut name h.me h.made h.store.bunches object part → is_some (object name) ≡ true →
          Agree h.me h.made h.store.bunches (put object name (option_map (with_fields (Some fields)) (object name))) part
      whole object part old there = record {
        same = λ x. ⊎_elim
            (λ (e : name ≡ x). old.same x ∙ ap (λ (y : ℕ). is_some (object y)) (sym e) ∙ sym (same (object name)) ∙ sym (ap is_some (put_here object name x (option_map (with_fields (Some fields)) (object name)) e)))
            (λ (ne : name ≡ x → ⊥). old.same x ∙ sym (ap is_some (put_apart object name x (option_map (with_fields (Some fields)) (object name)) ne)))
            (cases_eq name x);
        fit = old.fit;
        owners = λ x p is own. ⊎_elim
            (λ (e : name ≡ x). ap (λ (y : Option Object). option_map_or (λ (o : Object). is_some o.copy) y false) (put_here object name x (option_map (with_fields (Some fields)) (object name)) e) ∙ full (object name) there)
            (λ (ne : name ≡ x → ⊥). ap (λ (y : Option Object). option_map_or (λ (o : Object). is_some o.copy) y false) (put_apart object name x (option_map (with_fields (Some fields)) (object name)) ne) ∙ old.owners x p ne is own)
            (cases_eq name x);
        fresh = λ count above below. ⊎_elim
            (λ (e : name ≡ name_word h.me count). absurd (false≢true (sym (ap is_some (old.fresh count above below)) ∙ ap (λ (y : ℕ). is_some (object y)) (sym e) ∙ there)))
            (λ (ne : name ≡ name_word h.me count → ⊥). put_apart object name (name_word h.me count) (option_map (with_fields (Some fields)) (object name)) ne ∙ old.fresh count above below)
            (cases_eq name (name_word h.me count));
        anchors = λ bunch below. ⊎_elim
            (λ (e : name ≡ anchor_of bunch). subst IsSome (sym (put_here object name (anchor_of bunch) (option_map (with_fields (Some fields)) (object name)) e)) (still (object name) (subst (λ (y : ℕ). IsSome (object y)) (sym e) (old.anchors bunch below))))
            (λ (ne : name ≡ anchor_of bunch → ⊥). subst IsSome (sym (put_apart object name (anchor_of bunch) (option_map (with_fields (Some fields)) (object name)) ne)) (old.anchors bunch below))
            (cases_eq name (anchor_of bunch));
      }

-- ## bringing all of it

pub frame_after : (a b c : Holdings) → Frame a b → Frame b c → Frame a c
frame_after a b c one two = record { me = two.me ∙ one.me; store = two.store ∙ one.store; limit = two.limit ∙ one.limit; clock = two.clock ∙ one.clock }

-- what has a token is known
pub known_of : (h : Holdings) (but name : ℕ) → KeepsBut but h → IsSome (part_of h.tokens name) → (k : Known) × ((state_of h).known name ≡ Some k)
known_of h but name keeps there = there_known ((state_of h).known name) (known_some h name true (sym (keeps.agree.same name) ∙ by (part_of h.tokens name) there))
  where
    by : (x : Option Part) → IsSome x → is_some x ≡ true
    by None s = absurd (false≢true s)
    by (Some p) s = refl

-- the granted object was heard of, and then those of the fields
module _ (h one two : Holdings) (from : ℕ) (info : Info) (fields slice : List Field) (sliced : slice ≡ fields) (can : CanHear h from (info ∷ filter_map info_in fields))
    (first : state_of one ≡ after_changes (state_of h) (Hears from info ∷ [])) (lies : places_of one ≡ with_learnt (places_of h) info)
    (second : state_of two ≡ after_changes (state_of one) (map (Hears from) (filter_map info_in slice))) (lie : places_of two ≡ with_all_learnt (places_of one) (filter_map info_in slice))
    (k : Known) (known : (state_of h).known info.name ≡ Some k) where
  both : state_of two ≡ after_changes (state_of h) (map (Hears from) (info ∷ filter_map info_in fields))
  both = second ∙ (λ i. after_changes (first i) (map (Hears from) (filter_map info_in (sliced i))))

  known_then : (state_of two).known info.name ≡ Some k
  known_then = ap (λ (s : NodeState). s.known info.name) both ∙ hears_stay (state_of h) from (info ∷ filter_map info_in fields) info.name k known

  pub brought_fit : length fields ≡ info.size → FitsFields (shown two.memory) info.name fields
  brought_fit size =
      fits_fields h two from info.name fields k (after_change (state_of h) (Hears from info)) both (heard_stays from (state_of h).known info info.name k known)
      (size ∙ sym (same_shape h from info (filter_map info_in fields) k can known).1)

  module _ (c : Contents) (installed : shown c ≡ with_copy (shown two.memory) info.name (Some (map heard_field fields))) where
    pub brought_state : state_of (record two { memory = c }) ≡ after_change (after_changes (state_of h) (map (Hears from) (info ∷ filter_map info_in fields))) (Knows info.name (record k { copy = Some (map heard_field fields) }))
    brought_state =
        copied_state two c info.name k (map heard_field fields) known_then installed
        ∙ ap (λ (s : NodeState). after_change s (Knows info.name (record k { copy = Some (map heard_field fields) }))) both

    pub brought_places : places_of (record two { memory = c }) ≡ with_all_learnt (places_of h) (info ∷ filter_map info_in fields)
    brought_places = copied_places two c info.name k (map heard_field fields) known_then installed ∙ lie ∙ (λ i. with_all_learnt (lies i) (filter_map info_in (sliced i)))

    pub brought_keeps : KeepsBut info.name two → Keeps (record two { memory = c })
    brought_keeps = copied_keeps two c info.name k (map heard_field fields) known_then installed

    pub brought_frame : Frame h one → Frame one two → Frame h (record two { memory = c })
    brought_frame a b = frame_after h two (record two { memory = c }) (frame_after h one two a b) (copied_frame two c info.name k (map heard_field fields) known_then installed)
