-- What nodes do is within the outcomes of Acts.
use Rattle.std.proofs.Common.{◌≡◌, inl, inr, ℕ, List, [], ◌∷◌, refl, ap, sym, subst, ◌∙◌, Bool, true, false, cond}
use Rattle.std.specs.Prelude.{◌==◌, ◌||◌, is_some, Option, Some, None}
use Rattle.std.specs.Option.{option_map}
use Rattle.std.specs.List.{list_any}
use Rattle.bmx_types.specs.declared.numbers.Mode.{Mode}
use Rattle.bmx_types.specs.declared.numbers.Mode.TheVariants.{Read, Write}
use Rattle.bmx_token.specs.declared.parts.Ask.{Ask}
use Rattle.bmx_token.specs.declared.parts.Role.{Role}
use Rattle.bmx_token.specs.declared.parts.Role.TheVariants.{Owner, Parent}
use Rattle.bmx_token.specs.declared.parts.Part.{Part}
use Rattle.bmx_token.specs.declared.answers.Served.{Served}
use Rattle.bmx_token.specs.declared.answers.Requested.{Requested}
use Rattle.bmx_token.specs.declared.answers.Revoked.{Revoked}
use Rattle.bmx_token.specs.Tokens.{take_wanted, want_read, want_write, acquire_by, release_by, is_write, revoke, serve_alone, serve_write, serve_head, serve_by, request_by, granted_by, inval_by, ack_by}
use Rattle.bmx_token.specs.Transitions.{Share, Note, Asks, Grants, Recalls, Returns, Send, Transition, Operation, Acquires, Releases, Serves, acquired, released, served, transition_of, requested, grant_taken, recalled, returned, note_transition}
use Rattle.bmx_token_model.specs.Machine.{Message, hears, said_transition, letter_transition}
use Rattle.bmx_token_model.proofs.Tallies.{eqb_true, eqb_false}
use Rattle.bmx_token_model.proofs.Acts.{TakesWanted, Reads, Writes, Joins, Frees, Readies, Acts, Rests, Hears, AltersTo, Wants, Answers, GrantsRead, HandsOver, Revokes, Arrives, Forwards, GetsRead, GetsWrite, ReturnsNone, ReturnsNow, ReturnsLater, GetsBack}

-- a transition, where there is one, is within the outcomes
abbrev MayAct : ℕ → ℕ → Option Note → Bool → Option Share → Option Transition → Type 0
MayAct me from taken tells h o = (t : Transition) → o ≡ Some t → Acts me from taken tells h t

pub none_is_not : {A : Type 0} {B : Type 0} (a : A) → None ≡ Some a → B
none_is_not a h = absurd cc

pub some_is : (a b : Transition) → Some a ≡ Some b → a ≡ b
some_is a b h = cc

none_acts : (me from : ℕ) (taken : Option Note) (tells : Bool) (h : Option Share) → MayAct me from taken tells h None
none_acts me from taken tells h t e = none_is_not t e

some_acts : (me from : ℕ) (taken : Option Note) (tells : Bool) (h : Option Share) (a : Transition) → Acts me from taken tells h a → MayAct me from taken tells h (Some a)
some_acts me from taken tells h a acts t e = subst (λ x. Acts me from taken tells h x) (some_is a t e) acts

-- one answer of two, by a test
pub either : {A : Type 0} (F : Part × A → Type 0) (b : Bool) (x y : Part × A) → (b ≡ true → F x) → (b ≡ false → F y) → F (cond b x y)
either F true x y h k = h refl
either F false x y h k = k refl

-- ## what a node does by itself

-- a transition of a node by itself, where there is one, is within the outcomes
abbrev May : ℕ → Share → Option Transition → Type 0
May me b o = MayAct me me None false (Some b) o

rests : (me : ℕ) (b : Share) → May me b (Some record { after = Some b; sends = [] })
rests me b = some_acts _ _ _ _ _ _ (Rests refl refl)

take_wanted_acts : (me : ℕ) (b : Share) (m : Mode) (ready : Bool) → b.part.held ≡ None → b.part.want ≡ Some m → b.part.ready ≡ ready →
    May me b (acquired me m b (take_wanted b.part m ready).0 (take_wanted b.part m ready).1)
take_wanted_acts me b m true held want ready = some_acts _ _ _ _ _ _ (AltersTo b _ refl (TakesWanted m held want ready refl) refl refl)
take_wanted_acts me b m false held want ready = rests me b

want_read_acts : (me : ℕ) (b : Share) (role : Role) (copy : Bool) → b.part.held ≡ None → b.part.want ≡ None → b.part.role ≡ role → b.copy ≡ copy →
    May me b (acquired me Read b (want_read b.part role copy).0 (want_read b.part role copy).1)
want_read_acts me b Owner copy held want role has = some_acts _ _ _ _ _ _ (AltersTo b _ refl (Reads (inl role) held want refl) refl refl)
want_read_acts me b (Parent parent) true held want role has = some_acts _ _ _ _ _ _ (AltersTo b _ refl (Reads (inr has) held want refl) refl refl)
want_read_acts me b (Parent parent) false held want role has = some_acts _ _ _ _ _ _ (Wants b Read parent refl role held want refl refl)

want_write_acts : (me : ℕ) (b : Share) (role : Role) (readers : List ℕ) → b.part.held ≡ None → b.part.want ≡ None → b.part.role ≡ role → b.part.readers ≡ readers →
    May me b (acquired me Write b (want_write me b.part role readers).0 (want_write me b.part role readers).1)
want_write_acts me b Owner [] held want role reads = some_acts _ _ _ _ _ _ (AltersTo b _ refl (Writes role held reads refl) refl refl)
want_write_acts me b Owner (r ∷ rs) held want role reads = some_acts _ _ _ _ _ _ (AltersTo b _ refl (Joins role want refl) refl refl)
want_write_acts me b (Parent parent) readers held want role reads = some_acts _ _ _ _ _ _ (Wants b Write parent refl role held want refl refl)

acquire_acts : (me : ℕ) (b : Share) (m : Mode) (held want : Option Mode) → b.part.held ≡ held → b.part.want ≡ want →
    May me b (acquired me m b (acquire_by me b.part b.copy m held want).0 (acquire_by me b.part b.copy m held want).1)
acquire_acts me b m (Some held) want h w = none_acts _ _ _ _ _
acquire_acts me b Read None (Some Write) h w = none_acts _ _ _ _ _
acquire_acts me b Read None (Some Read) h w = take_wanted_acts me b Read b.part.ready h w refl
acquire_acts me b Read None None h w = want_read_acts me b b.part.role b.copy h w refl refl
acquire_acts me b Write None (Some Read) h w = none_acts _ _ _ _ _
acquire_acts me b Write None (Some Write) h w = take_wanted_acts me b Write b.part.ready h w refl
acquire_acts me b Write None None h w = want_write_acts me b b.part.role b.part.readers h w refl refl

release_acts : (me : ℕ) (b : Share) (held : Option Mode) (due : Option ℕ) → b.part.held ≡ held → b.part.due ≡ due →
    May me b (released b (release_by b.part held due).0 (release_by b.part held due).1)
release_acts me b None due h d = none_acts _ _ _ _ _
release_acts me b (Some held) None h d = some_acts _ _ _ _ _ _ (AltersTo b _ refl (Frees held h d refl) refl refl)
release_acts me b (Some held) (Some owner) h d = some_acts _ _ _ _ _ _ (Answers b owner held refl h d refl refl)

-- what serving comes to
abbrev Serving : ℕ → Share → Part × Served → Type 0
Serving me b r = May me b (served b r.0 r.1)

read_head_acts : (me : ℕ) (b : Share) (asker : ℕ) (rest : List Ask) → b.part.role ≡ Owner → b.part.queue ≡ record { asker = asker; mode = Read } ∷ rest →
    Serving me b (serve_head me b.part asker rest Read)
read_head_acts me b asker rest role queue = either (Serving me b) (is_write b.part.held || b.part.ready) _ _
    (λ e. none_acts _ _ _ _ _)
    (λ e. some_acts _ _ _ _ _ _ (GrantsRead b asker rest refl role queue e refl refl))

alone_acts : (me : ℕ) (b : Share) (asker : ℕ) (rest : List Ask) → b.part.role ≡ Owner → b.part.queue ≡ record { asker = asker; mode = Write } ∷ rest →
    b.part.readers ≡ [] → Serving me b (serve_alone me b.part asker rest)
alone_acts me b asker rest role queue readers = either (Serving me b) (is_some b.part.held || b.part.ready) _ _
    (λ e. none_acts _ _ _ _ _)
    (λ e. either (Serving me b) (asker == me) _ _
    (λ mine. some_acts _ _ _ _ _ _ (AltersTo b _ refl (Readies rest role readers (queue ∙ ap (λ (a : ℕ). record { asker = a; mode = Write } ∷ rest) (eqb_true asker me mine)) refl) refl refl))
    (λ other. some_acts _ _ _ _ _ _ (HandsOver b asker rest refl role readers queue (eqb_false asker me other) e refl refl)))

revoke_acts : (me : ℕ) (b : Share) (asker : ℕ) (rest : List Ask) (waiting : List ℕ) → b.part.role ≡ Owner →
    b.part.queue ≡ record { asker = asker; mode = Write } ∷ rest → b.part.waiting ≡ waiting → Serving me b (revoke b.part waiting)
revoke_acts me b asker rest [] role queue waits = some_acts _ _ _ _ _ _ (Revokes b asker rest refl role queue waits refl refl)
revoke_acts me b asker rest (n ∷ ns) role queue waits = none_acts _ _ _ _ _

write_head_acts : (me : ℕ) (b : Share) (asker : ℕ) (rest : List Ask) (readers : List ℕ) → b.part.role ≡ Owner →
    b.part.queue ≡ record { asker = asker; mode = Write } ∷ rest → b.part.readers ≡ readers → Serving me b (serve_write me b.part asker rest readers)
write_head_acts me b asker rest [] role queue reads = alone_acts me b asker rest role queue reads
write_head_acts me b asker rest (r ∷ rs) role queue reads = revoke_acts me b asker rest b.part.waiting role queue refl

head_acts : (me : ℕ) (b : Share) (asker : ℕ) (m : Mode) (rest : List Ask) → b.part.role ≡ Owner → b.part.queue ≡ record { asker = asker; mode = m } ∷ rest →
    Serving me b (serve_head me b.part asker rest m)
head_acts me b asker Read rest role queue = read_head_acts me b asker rest role queue
head_acts me b asker Write rest role queue = write_head_acts me b asker rest b.part.readers role queue refl

serve_acts : (me : ℕ) (b : Share) (role : Role) (queue : List Ask) → b.part.role ≡ role → b.part.queue ≡ queue → Serving me b (serve_by me b.part role queue)
serve_acts me b (Parent parent) queue r q = none_acts _ _ _ _ _
serve_acts me b Owner [] r q = none_acts _ _ _ _ _
serve_acts me b Owner (head ∷ rest) r q = head_acts me b head.asker head.mode rest r q

pub transition_acts : (me : ℕ) (a : Operation) (b : Share) → May me b (transition_of me a b)
transition_acts me (Acquires m) b = acquire_acts me b m b.part.held b.part.want refl refl
transition_acts me Releases b = release_acts me b b.part.held b.part.due refl refl
transition_acts me Serves b = serve_acts me b b.part.role b.part.queue refl refl

-- ## what a node makes of a letter

-- a transition, and then the node hears of the object or not
abbrev heard : Bool → ℕ → Option Transition → Option Transition
heard tells from o = option_map (λ (t : Transition). record t { after = hears tells from t.after }) o

-- a transition by a note, where there is one, is within the outcomes once the node has heard of the object or not
abbrev Says : ℕ → ℕ → Note → Bool → Share → Option Transition → Type 0
Says me from n tells b o = MayAct me from (Some n) tells (Some b) (heard tells from o)

hears_some : (tells : Bool) (from : ℕ) (k : Share) → hears tells from (Some k) ≡ Some k
hears_some true from k = refl
hears_some false from k = refl

-- who has something of it after the transition hears nothing new
says : (me from : ℕ) (n : Note) (tells : Bool) (b k : Share) (sends : List Send) → Acts me from (Some n) tells (Some b) record { after = Some k; sends = sends } →
    Says me from n tells b (Some record { after = Some k; sends = sends })
says me from n tells b k sends acts =
    some_acts _ _ _ _ _ _ (subst (λ x. Acts me from (Some n) tells (Some b) record { after = x; sends = sends }) (sym (hears_some tells from k)) acts)

request_acts : (me from : ℕ) (m : Mode) (asker : ℕ) (tells : Bool) (b : Share) (role : Role) → b.part.role ≡ role →
    Says me from (Asks m asker) tells b (requested m asker b (request_by me b.part asker m role).0 (request_by me b.part asker m role).1)
request_acts me from m asker tells b (Parent parent) r = says _ _ _ _ _ _ _ (Forwards b m asker parent refl r refl refl)
request_acts me from m asker tells b Owner r =
    either (λ (x : Part × Requested). Says me from (Asks m asker) tells b (requested m asker b x.0 x.1)) (asker == me) _ _
    (λ mine. none_acts _ _ _ _ _)
    (λ other. says _ _ _ _ _ _ _ (Arrives b m asker refl r (eqb_false asker me other) refl refl))

granted_acts : (me from : ℕ) (tells : Bool) (b : Share) (m : Mode) (role : Role) (want : Option Mode) (ready : Bool) →
    b.part.role ≡ role → b.part.want ≡ want → b.part.ready ≡ ready →
    Says me from (Grants m) tells b (grant_taken (granted_by b.part from m role want ready).0 (granted_by b.part from m role want ready).1)
granted_acts me from tells b Read (Parent parent) (Some Read) false r w d = says _ _ _ _ _ _ _ (GetsRead b parent refl r w d refl refl)
granted_acts me from tells b Write (Parent parent) (Some Write) false r w d = says _ _ _ _ _ _ _ (GetsWrite b parent refl r w d refl refl)
granted_acts me from tells b m role want ready r w d = none_acts _ _ _ _ _

inval_acts : (me from : ℕ) (tells : Bool) (b : Share) (role : Role) (due : Option ℕ) (copy : Bool) →
    b.part.role ≡ role → b.part.due ≡ due → b.copy ≡ copy →
    Says me from Recalls tells b (recalled from b (inval_by b.part from role due copy).0 (inval_by b.part from role due copy).1)
inval_acts me from tells b Owner due copy r d c = none_acts _ _ _ _ _
inval_acts me from tells b (Parent parent) (Some owner) copy r d c = none_acts _ _ _ _ _
inval_acts me from tells b (Parent parent) None false r d c = says _ _ _ _ _ _ _ (ReturnsNow b parent refl r d (inl c) refl refl)
inval_acts me from tells b (Parent parent) None true r d c =
    either (λ (x : Part × Option Revoked). Says me from Recalls tells b (recalled from b x.0 x.1)) (is_some b.part.held || b.part.ready) _ _
    (λ e. says _ _ _ _ _ _ _ (ReturnsLater b parent refl r d c e refl refl))
    (λ e. says _ _ _ _ _ _ _ (ReturnsNow b parent refl r d (inr e) refl refl))

ack_acts : (me from : ℕ) (tells : Bool) (b : Share) (role : Role) → b.part.role ≡ role →
    Says me from Returns tells b (returned b (ack_by b.part from role).0 (ack_by b.part from role).1)
ack_acts me from tells b (Parent parent) r = none_acts _ _ _ _ _
ack_acts me from tells b Owner r =
    either (λ (x : Part × Bool). Says me from Returns tells b (returned b x.0 x.1)) (list_any (λ node. node == from) b.part.waiting) _ _
    (λ e. says _ _ _ _ _ _ _ (GetsBack b refl r e refl refl))
    (λ e. none_acts _ _ _ _ _)

note_acts : (me from : ℕ) (tells : Bool) (n : Note) (h : Option Share) → MayAct me from (Some n) tells h (heard tells from (note_transition me from n h))
note_acts me from tells (Asks m asker) None = none_acts _ _ _ _ _
note_acts me from tells (Asks m asker) (Some b) = request_acts me from m asker tells b b.part.role refl
note_acts me from tells (Grants m) None = none_acts _ _ _ _ _
note_acts me from tells (Grants m) (Some b) = granted_acts me from tells b m b.part.role b.part.want b.part.ready refl refl refl
note_acts me from true Recalls None = some_acts _ _ _ _ _ _ (ReturnsNone _ refl (inr (refl, refl)) refl refl)
note_acts me from false Recalls None = some_acts _ _ _ _ _ _ (ReturnsNone _ refl (inl refl) refl refl)
note_acts me from tells Recalls (Some b) = inval_acts me from tells b b.part.role b.part.due b.copy refl refl refl
note_acts me from tells Returns None = none_acts _ _ _ _ _
note_acts me from tells Returns (Some b) = ack_acts me from tells b b.part.role refl

-- a letter with no note
silent_acts : (me from : ℕ) (tells : Bool) (h : Option Share) → MayAct me from None tells h (Some record { after = hears tells from h; sends = [] })
silent_acts me from true None = some_acts _ _ _ _ _ _ (Hears refl refl refl refl)
silent_acts me from true (Some b) = some_acts _ _ _ _ _ _ (Rests refl refl)
silent_acts me from false h = some_acts _ _ _ _ _ _ (Rests refl refl)

said_acts : (me from : ℕ) (note : Option Note) (tells : Bool) (h : Option Share) → MayAct me from note tells h (heard tells from (said_transition me from note h))
said_acts me from None tells h = silent_acts me from tells h
said_acts me from (Some n) tells h = note_acts me from tells n h

pub letter_acts : (me from : ℕ) (l : Message) (h : Option Share) → MayAct me from l.note l.tells h (letter_transition me from l h)
letter_acts me from l h = said_acts me from l.note l.tells h
