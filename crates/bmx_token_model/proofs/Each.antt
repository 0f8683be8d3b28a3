-- What holds of each letter in flight, as letters are issued and taken.
use Rattle.std.proofs.Common.{◌≡◌, ℕ, ◌+◌, List, [], ◌∷◌, ◌++◌, map, Bool, refl, ap, sym, subst, subst₂}
use Rattle.bmx_token.specs.Transitions.{Send, Transition}
use Rattle.bmx_token_model.specs.Machine.{Message, Unnumbered, Object, draft, numbered, with_holding, issue, issue_all, moved, popped}
use Rattle.bmx_token_model.proofs.Tallies.{put_at-here, put_at-apart, Both, Other, pair_cases}

abbrev pub Each : (Message → Type 0) → List Message → Type 0
Each P [] = Unit {0}
Each P (l ∷ letters) = P l × Each P letters

pub each_append : (P : Message → Type 0) (a b : List Message) → Each P a → Each P b → Each P (a ++ b)
each_append P [] b h k = k
each_append P (l ∷ a) b h k = (h.0, each_append P a b h.1 k)

pub each_more : (P Q : Message → Type 0) → ((l : Message) → P l → Q l) → (letters : List Message) → Each P letters → Each Q letters
each_more P Q more [] h = tt
each_more P Q more (l ∷ letters) h = (more l h.0, each_more P Q more letters h.1)

-- of a letter wherever it stands
pub each_there : (P : Message → Type 0) (letters : List Message) → Each P letters → (l : Message) (before after : List Message) → letters ≡ before ++ l ∷ after → P l
each_there P letters h l [] after e = (subst (Each P) e h).0
each_there P letters h l (k ∷ before) after e = each_there P (before ++ l ∷ after) (subst (Each P) e h).1 l before after refl

pub each_of : (P : Message → Type 0) (letters : List Message) → ((l : Message) (before after : List Message) → letters ≡ before ++ l ∷ after → P l) → Each P letters
each_of P [] h = tt
each_of P (l ∷ letters) h = (h l [] letters refl, each_of P letters (λ k before after e. h k (l ∷ before) after (ap (λ (x : List Message). l ∷ x) e)))

-- in a channel, once a letter is issued or taken
pub issue_way : (P : Message → Type 0) (o : Object) (me : ℕ) (d : Unnumbered) (n m : ℕ) → Each P (o.channel n m) → (n ≡ me → m ≡ d.to → P (numbered (o.issued me d.to + 1) d)) → Each P ((issue o me d).channel n m)
issue_way P o me d n m h new = elim (pair_cases me d.to n m) [
  | Both e f ↦ subst₂ (λ x y. Each P ((issue o me d).channel x y)) (sym e) (sym f)
      (subst (Each P) (sym (put_at-here o.channel me d.to (o.channel me d.to ++ numbered (o.issued me d.to + 1) d ∷ [])))
      (each_append P (o.channel me d.to) (numbered (o.issued me d.to + 1) d ∷ []) (subst₂ (λ x y. Each P (o.channel x y)) e f h) (new e f, tt)))
  | Other c ↦ subst (Each P) (sym (put_at-apart o.channel me d.to (o.channel me d.to ++ numbered (o.issued me d.to + 1) d ∷ []) n m c)) h
]

pub popped_way : (P : Message → Type 0) (o : Object) (from me : ℕ) (l : Message) (rest : List Message) → o.channel from me ≡ l ∷ rest → (n m : ℕ) → Each P (o.channel n m) → Each P ((popped o from me l rest).channel n m)
popped_way P o from me l rest channel n m h = elim (pair_cases from me n m) [
  | Both e f ↦ subst₂ (λ x y. Each P ((popped o from me l rest).channel x y)) (sym e) (sym f)
      (subst (Each P) (sym (put_at-here o.channel from me rest)) (subst (Each P) channel (subst₂ (λ x y. Each P (o.channel x y)) e f h)).1)
  | Other c ↦ subst (Each P) (sym (put_at-apart o.channel from me rest n m c)) h
]

-- in each channel
abbrev pub EachWay : (ℕ → ℕ → Message → Type 0) → (ℕ → ℕ → List Message) → Type 0
EachWay P channel = (n m : ℕ) → Each (P n m) (channel n m)

pub issue_each : (P : ℕ → ℕ → Message → Type 0) (o : Object) (me : ℕ) (d : Unnumbered) → EachWay P o.channel → P me d.to (numbered (o.issued me d.to + 1) d) → EachWay P (issue o me d).channel
issue_each P o me d h new n m = issue_way (P n m) o me d n m (h n m) (λ e f. subst₂ (λ x y. P x y (numbered (o.issued me d.to + 1) d)) (sym e) (sym f) new)

pub popped_each : (P : ℕ → ℕ → Message → Type 0) (o : Object) (from me : ℕ) (l : Message) (rest : List Message) → o.channel from me ≡ l ∷ rest → EachWay P o.channel → EachWay P (popped o from me l rest).channel
popped_each P o from me l rest channel h n m = popped_way (P n m) o from me l rest channel n m (h n m)

-- ## what is sent

-- of each note that is sent
abbrev pub EachSend : (Send → Type 0) → List Send → Type 0
EachSend P [] = Unit {0}
EachSend P (s ∷ sends) = P s × EachSend P sends

pub sends_more : (P Q : Send → Type 0) → ((s : Send) → P s → Q s) → (sends : List Send) → EachSend P sends → EachSend Q sends
sends_more P Q more [] h = tt
sends_more P Q more (s ∷ sends) h = (more s h.0, sends_more P Q more sends h.1)

-- what each letter issued keeps, all do
pub issue_all_kept : (P : Object → Type 0) (me : ℕ) → ((o : Object) (d : Unnumbered) → P o → P (issue o me d)) → (o : Object) (drafts : List Unnumbered) → P o → P (issue_all o me drafts)
issue_all_kept P me kept o [] h = h
issue_all_kept P me kept o (d ∷ drafts) h = issue_all_kept P me kept (issue o me d) drafts (kept o d h)

pub moved_kept : (P : Object → Type 0) (me : ℕ) → ((o : Object) (d : Unnumbered) → P o → P (issue o me d)) → (o : Object) (refers : Bool) (t : Transition) → P (with_holding o me t.after) → P (moved o me refers t)
moved_kept P me kept o refers t h = issue_all_kept P me kept (with_holding o me t.after) (map (draft refers) t.sends) h
