-- What contents show, part by part.
use Rattle.std.proofs.Common.{◌≡◌, ℕ, ◌^◌, ◌<◌, ◌==◌, ◌&&◌, nat_lt, Bool, true, false, cond, List, [], ◌∷◌, map, Option, Some, None, is_some, slice_get, slice_set, unwrap_or, length, replicate, zero, suc, ◌≢◌, option_and_then, refl, sym, ap, subst, ◌∙◌, inl, inr, arith}
use Rattle.std.proofs.Math.Path.{fun_ext}
use Rattle.std.specs.Option.{option_map, option_map_or}
use Rattle.std.proofs.lemmas.Bool.{cases_eq, eq-eqb, ne_eqb, false≢true}
use Rattle.bmx_types.specs.Updates.{put, Puts}
use Rattle.bmx_types.specs.declared.values.Val.{Val}
use Rattle.bmx_types.specs.declared.values.Val.TheVariants as val
use Rattle.bmx_segment.specs.Headers.{kind_number}
use Rattle.bmx_segment.specs.Heaps.{made_of, handed_of, handed_in, own_at, current_of}
use Rattle.bmx_segment.specs.declared.headers.Kind.TheVariants.{Null}
use Rattle.bmx_replica.proofs.Changing.{get_or-same}
use Rattle.std.specs.Prelude.{IfSome, IfNone, ◌-◌}
use Rattle.bmx_segment.specs.Stores.{segment_key, block_at, header_at}
use Rattle.bmx_replica.specs.declared.words.Word.{Word}
use Rattle.bmx_replica.specs.Replicas.{Holding, Entry, HasTarget, KeepsNames, entry_of, copy_of, field_of, info_in}
use Rattle.bmx_replica.proofs.Standing.{value_in-same}
use Rattle.bmx_protocol.specs.Nodes.{field_of as as_field, value_in as as_value}
use Rattle.bmx_protocol.specs.Places.{Places, no_places}
use Rattle.bmx_protocol.specs.Steps.{nowhere}
use Rattle.bmx_memory.specs.Contents.{Contents, register_of, value_at}
use Rattle.bmx_memory.specs.Shown.{Shown, Object, shown, places_of, object_of, header_of, HasEntry, value_of, has_copy, info_of, with_register}
use Rattle.bmx_memory.specs.Inside.Keeping.{Keeps}

-- ---- updates

pub cond_ap : {A B : Type 0} (f : A → B) (b : Bool) (x y : A) → f (cond b x y) ≡ cond b (f x) (f y)
cond_ap f true x y = refl
cond_ap f false x y = refl

-- what is seen of what is put is put
pub put_seen : {A B : Type 0} (f : A → B) (old new : ℕ → Option A) (key : ℕ) (o : Option A) → Puts old new key o → (k : ℕ) → option_map f (new k) ≡ put (λ q. option_map f (old q)) key (option_map f o) k
put_seen f old new key o puts k = ap (option_map f) (puts k) ∙ cond_ap (option_map f) (key == k) o (old k)

-- to put what is there changes nothing
pub put_same : {A : Type 0} (f : ℕ → A) (key : ℕ) (v : A) → v ≡ f key → (k : ℕ) → put f key v k ≡ f k
put_same f key v is k =
    elim (cases_eq key k) [
      | inl same ↦ ap (λ b. cond b v (f k)) (eq-eqb key k same) ∙ is ∙ ap f same
      | inr other ↦ ap (λ b. cond b v (f k)) (ne_eqb key k other)
    ]

pub map_map : {A B C : Type 0} (f : A → B) (g : B → C) (o : Option A) → option_map g (option_map f o) ≡ option_map (λ x. g (f x)) o
map_map f g None = refl
map_map f g (Some x) = refl

pub map_same : {A B : Type 0} (f g : A → B) (o : Option A) → ((x : A) → f x ≡ g x) → option_map f o ≡ option_map g o
map_same f g None same = refl
map_same f g (Some x) same = ap Some (same x)

-- ---- the whole

-- contents show what agrees with them at each name, address, segment and register
pub shown_from : (m : Contents) (s : Shown) → m.replica.heap.me ≡ s.me → m.replica.heap.limit ≡ s.limit
    → ((q : ℕ) → option_map object_of (entry_of m.replica q) ≡ s.object q) → places_of m.replica ≡ s.places → ((q : ℕ) → register_of m q ≡ s.register q) → shown m ≡ s
unfolding shown
shown_from m s me limit objects places registers = λ i. record {
  me = me i;
  limit = limit i;
  object = fun_ext objects i;
  places = places i;
  register = fun_ext registers i;
}

pub places_from : (r : Holding) (p : Places)
    → ((q : ℕ) → option_map (λ (e : Entry). e.place) (entry_of r q) ≡ p.place q)
    → ((a : ℕ) → option_map header_of (header_at r.heap.blocks a) ≡ p.header a)
    → ((home number : ℕ) → (nat_lt number (2 ^ 16) && is_some (block_at r.heap.blocks (segment_key home number))) ≡ p.mapped home number)
    → ((number : ℕ) → handed_of r.heap number ≡ p.handed number)
    → ((bunch : ℕ) → current_of r.heap bunch ≡ p.opened bunch)
    → made_of r.heap ≡ p.made → places_of r ≡ p
places_from r p place header mapped handed opened made = λ i. record {
  place = fun_ext place i;
  header = fun_ext header i;
  mapped = fun_ext (λ home. fun_ext (mapped home)) i;
  handed = fun_ext handed i;
  opened = fun_ext opened i;
  made = made i;
}

-- ---- look-ups

back : (v : Val) → as_value (as_field v) ≡ v
back val.Null = refl
back (val.Int k) = refl
back (val.Ref name) = refl

all_back : (vs : List Val) → map as_value (map as_field vs) ≡ vs
all_back [] = refl
all_back (v ∷ vs) = λ i. back v i ∷ all_back vs i

value_in_copy : (o : Option (List Val)) (i : ℕ) → option_and_then (λ (l : List Val). slice_get l i) (option_map (map as_value) (option_map (map as_field) o)) ≡ option_and_then (λ (l : List Val). slice_get l i) o
value_in_copy None i = refl
value_in_copy (Some vs) i = ap (λ l. slice_get l i) (all_back vs)

value_of_entry : (o : Option Entry) (i : ℕ)
    → option_and_then (λ (l : List Val). slice_get l i) (option_and_then (λ (b : Object). option_map (map as_value) b.copy) (option_map object_of o))
    ≡ option_and_then (λ (l : List Val). slice_get l i) (option_and_then (λ (e : Entry). e.copy) o)
value_of_entry None i = refl
value_of_entry (Some e) i = value_in_copy e.copy i

-- the value in a field
pub value_shown : (m : Contents) (name i : ℕ) → value_of (shown m) name i ≡ field_of m.replica name i
unfolding shown
value_shown m name i = value_of_entry (entry_of m.replica name) i

some_seen : {A B : Type 0} (f : A → B) (o : Option A) → is_some (option_map f o) ≡ is_some o
some_seen f None = refl
some_seen f (Some x) = refl

-- a value refers to a name with an entry
pub target_shown : (m : Contents) (v : Val) → HasEntry (shown m) v → HasTarget m.replica v
unfolding shown
target_shown m val.Null has = tt
target_shown m (val.Int k) has = tt
target_shown m (val.Ref name) has = sym (some_seen object_of (entry_of m.replica name)) ∙ has

pub entry_shown : (m : Contents) (v : Val) → HasTarget m.replica v → HasEntry (shown m) v
unfolding shown
entry_shown m val.Null has = tt
entry_shown m (val.Int k) has = tt
entry_shown m (val.Ref name) has = some_seen object_of (entry_of m.replica name) ∙ has

-- what is known has an entry
pub object_shown : (m : Contents) (name : ℕ) → is_some ((shown m).object name) ≡ is_some (entry_of m.replica name)
unfolding shown
object_shown m name = some_seen object_of (entry_of m.replica name)

info_of_entry : (name : ℕ) (o : Option Entry) → option_map (info_in name) o
    ≡ option_map (λ (b : Object). record { name = name; bunch = b.bunch; size = b.size; place = unwrap_or (option_map (λ (e : Entry). e.place) o) nowhere }) (option_map object_of o)
info_of_entry name None = refl
info_of_entry name (Some e) = refl

pub info_shown : (m : Contents) (name : ℕ) → option_map (info_in name) (entry_of m.replica name) ≡ info_of (shown m) name
unfolding shown
info_shown m name = info_of_entry name (entry_of m.replica name)

copy_of_object : (o : Option Entry) → option_map_or (λ (b : Object). is_some b.copy) (option_map object_of o) false ≡ is_some (option_and_then (λ (e : Entry). e.copy) o)
copy_of_object None = refl
copy_of_object (Some e) = some_seen (map as_field) e.copy

pub copy_shown : (m : Contents) (name : ℕ) → has_copy (shown m) name ≡ is_some (copy_of m.replica name)
unfolding shown
copy_shown m name = copy_of_object (entry_of m.replica name)

-- without a copy no field holds a value
pub no_field : (m : Contents) (name i : ℕ) → is_some (copy_of m.replica name) ≡ false → value_of (shown m) name i ≡ None
no_field m name i none = value_shown m name i ∙ by (copy_of m.replica name) none
  where
    by : (o : Option (List Val)) → is_some o ≡ false → option_and_then (λ (l : List Val). slice_get l i) o ≡ None
    by None none = refl
    by (Some l) none = absurd (false≢true (sym none))

no_entry : (o : Option Entry) → is_some o ≡ false → is_some (option_and_then (λ (e : Entry). e.copy) o) ≡ false
no_entry None none = refl
no_entry (Some e) none = absurd (false≢true (sym none))

-- a name without an entry has no copy
pub none_shown : (m : Contents) (name : ℕ) → is_some (entry_of m.replica name) ≡ false → has_copy (shown m) name ≡ false
none_shown m name none = copy_shown m name ∙ no_entry (entry_of m.replica name) none

pub register_shown : (m : Contents) (q : ℕ) (w : Word) → slice_get m.registers q ≡ Some w → (shown m).register q ≡ value_at m.replica w
unfolding shown
register_shown m q w is = ap (λ o. option_map_or (value_at m.replica) o val.Null) is

pub of_some : {A : Type 0} (o : Option A) (P : A → Type 0) → ((v : A) → o ≡ Some v → P v) → IfSome o P
of_some None P h = tt
of_some (Some v) P h = h v refl

pub if_some : {A : Type 0} (o : Option A) (P : A → Type 0) (v : A) → o ≡ Some v → IfSome o P → P v
if_some o P v is holds = subst (λ x. IfSome x P) is holds

pub some_map : {A : Type 0} (o : Option A) (P Q : A → Type 0) → ((v : A) → P v → Q v) → IfSome o P → IfSome o Q
some_map None P Q f holds = tt
some_map (Some v) P Q f holds = f v holds

pub of_none : {A P : Type 0} (o : Option A) → (is_some o ≡ false → P) → IfNone o P
of_none None h = h refl
of_none (Some v) h = tt

pub same_truth : (a b : Bool) → (a ≡ true → b ≡ true) → (b ≡ true → a ≡ true) → a ≡ b
same_truth true b there back = sym (there refl)
same_truth false true there back = back refl
same_truth false false there back = refl

-- ---- a change of a register

got_set : (ws : List Word) (i : ℕ) (w : Word) → i < length ws → slice_get (slice_set ws i w) i ≡ Some w
got_set [] i w lt = absurd (omega arith)
got_set (x ∷ xs) zero w lt = refl
got_set (x ∷ xs) (suc i) w lt = got_set xs i w (omega arith)

got_other : (ws : List Word) (i : ℕ) (w : Word) (q : ℕ) → i ≢ q → slice_get (slice_set ws i w) q ≡ slice_get ws q
got_other [] i w q off = refl
got_other (x ∷ xs) zero w zero off = absurd (off refl)
got_other (x ∷ xs) zero w (suc q) off = refl
got_other (x ∷ xs) (suc i) w zero off = refl
got_other (x ∷ xs) (suc i) w (suc q) off = got_other xs i w q (λ e. off (ap suc e))

-- what is shown after a register is set
pub shown_set : (m : Contents) (i : ℕ) (w : Word) (v : Val) → i < length m.registers → value_at m.replica w ≡ v → shown (record m { registers = slice_set m.registers i w }) ≡ with_register (shown m) i v
unfolding shown
shown_set m i w v lt holds =
    shown_from (record m { registers = slice_set m.registers i w }) (with_register (shown m) i v) refl refl (λ q. refl) refl (λ q.
    elim (cases_eq i q) [
      | inl same ↦
          ap (λ k. option_map_or (value_at m.replica) (slice_get (slice_set m.registers i w) k) val.Null) (sym same)
          ∙ ap (λ o. option_map_or (value_at m.replica) o val.Null) (got_set m.registers i w lt)
          ∙ holds ∙ sym (ap (λ b. cond b v (register_of m q)) (eq-eqb i q same))
      | inr other ↦
          ap (λ o. option_map_or (value_at m.replica) o val.Null) (got_other m.registers i w q other)
          ∙ sym (ap (λ b. cond b v (register_of m q)) (ne_eqb i q other))
    ])

-- ---- a change of room alone

pub shown_same : (m : Contents) (new : Holding) (room : ℕ) → new.slots ≡ m.replica.slots → new.heap ≡ record m.replica.heap { spare = room } → shown (record m { replica = new }) ≡ shown m
unfolding shown
shown_same m new room slots heap = λ i. shown (record m { replica = record { slots = slots i; heap = heap i; spare = new.spare } })

-- ---- nothing

no_register : (n q : ℕ) (w : Word) (m : Holding) → value_at m w ≡ val.Null → option_map_or (value_at m) (slice_get (replicate n w) q) val.Null ≡ val.Null
no_register zero q w m is = refl
no_register (suc n) zero w m is = is
no_register (suc n) (suc q) w m is = no_register n q w m is

no_own : (number : ℕ) → handed_in (own_at [] number) ≡ 0
no_own number = by (number == 0)
  where
    by : (b : Bool) → handed_in (cond b None (slice_get [] (number - 1))) ≡ 0
    by true = refl
    by false = refl

none_of : (b : Bool) → (b && false) ≡ false
none_of true = refl
none_of false = refl

-- what is shown at first
pub shown_none : (m : Contents) (me limit : ℕ) → m.replica.slots ≡ [] → m.replica.heap ≡ record { me = me; limit = limit; own = []; current = replicate 16 None; blocks = []; spare = 0 }
    → m.registers ≡ replicate 16 (record { kind = Null; word = 0 })
    → shown m ≡ record { me = me; limit = limit; object = λ name. None; places = no_places; register = λ r. val.Null }
shown_none m me limit slots heap registers = ap shown whole ∙ empty
  where
    first : Contents
    first = record {
      replica = record { slots = []; heap = record { me = me; limit = limit; own = []; current = replicate 16 None; blocks = []; spare = 0 }; spare = m.replica.spare };
      registers = replicate 16 (record { kind = Null; word = 0 });
    }

    whole : m ≡ first
    whole = λ i. record { replica = record { slots = slots i; heap = heap i; spare = m.replica.spare }; registers = registers i }

    empty : shown first ≡ record { me = me; limit = limit; object = λ name. None; places = no_places; register = λ r. val.Null }
    empty =
        shown_from first _ refl refl (λ q. refl)
        (places_from first.replica no_places (λ q. refl) (λ a. refl) (λ home number. none_of (nat_lt number (2 ^ 16))) no_own (λ bunch. get_or-same 16 bunch None) refl)
        (λ q. no_register 16 q (record { kind = Null; word = 0 }) first.replica refl)

-- ---- a change of objects

-- registers hold what they held
pub registers_kept : (m : Contents) (new : Holding) → Keeps m → KeepsNames m.replica new → (q : ℕ) → register_of (record m { replica = new }) q ≡ register_of m q
registers_kept m new kept names q = by (slice_get m.registers q) refl
  where
    by : (o : Option Word) → slice_get m.registers q ≡ o → option_map_or (value_at new) o val.Null ≡ option_map_or (value_at m.replica) o val.Null
    by None is = refl
    by (Some w) is = value_in-same m.replica.heap.blocks new.heap.blocks (kind_number w.kind) w.word (kept.held q w is) names

-- what is shown after a change of objects
pub shown_changed : (m : Contents) (new : Holding) (object : ℕ → Option Object) (places : Places) → Keeps m → KeepsNames m.replica new → new.heap.me ≡ m.replica.heap.me → new.heap.limit ≡ m.replica.heap.limit
    → ((q : ℕ) → option_map object_of (entry_of new q) ≡ object q) → places_of new ≡ places → shown (record m { replica = new }) ≡ record (shown m) { object = object; places = places }
unfolding shown
shown_changed m new object places kept names me limit objects same =
    shown_from (record m { replica = new }) (record (shown m) { object = object; places = places }) me limit objects same (registers_kept m new kept names)
