-- Tables over traffic: whenever a table is taken, however late and often, it clears only records that no parent and
-- no request in flight counts on.
use Rattle.std.proofs.Common.{◌≡◌, ◌⊎◌, inl, inr, ℕ, ◌+◌, ◌≤◌, arith, List, [], ◌∷◌, ◌++◌, refl, ap, sym, subst, subst₂, ◌∙◌, Bool, true, false, cond}
use Rattle.std.specs.Prelude.{Option, Some, None}
use Rattle.bmx_types.specs.Updates.{put, put_at}
use Rattle.bmx_token_model.specs.Machine.{Numbers, sent_in, got_in}
use Rattle.bmx_token_model.specs.Tables.{Table}
use Rattle.bmx_token_model.proofs.Tallies.{Cases, Same, Apart, cases, put_at-here, put_at-apart, put_at-all, Both, Other, pair_cases}
use Rattle.bmx_token_model.proofs.Traffic.{Letter, Traffic, Unnumbered, numbered, issue, issue_all, taking, looking, Counted, IsCounted, issue_counted, issue_entering, taking_entering, taking_here}

-- ## lists

abbrev pub In : {A : Type 0} → A → List A → Type 0
In x [] = ⊥
In x (y ∷ xs) = (y ≡ x) ⊎ In x xs

pub in_left : {A : Type 0} (x : A) (a b : List A) → In x a → In x (a ++ b)
in_left x [] b i = absurd i
in_left x (y ∷ a) b (inl e) = inl e
in_left x (y ∷ a) b (inr i) = inr (in_left x a b i)

pub in_right : {A : Type 0} (x : A) (a b : List A) → In x b → In x (a ++ b)
in_right x [] b i = i
in_right x (y ∷ a) b i = inr (in_right x a b i)

pub in_either : {A : Type 0} (x : A) (a b : List A) → In x (a ++ b) → In x a ⊎ In x b
in_either x [] b i = inr i
in_either x (y ∷ a) b (inl e) = inl (inl e)
in_either x (y ∷ a) b (inr i) = by_rest (in_either x a b i)
  where
    by_rest : In x a ⊎ In x b → In x (y ∷ a) ⊎ In x b
    by_rest (inl j) = inl (inr j)
    by_rest (inr j) = inr j

pub in_split : {A : Type 0} (x : A) (xs : List A) → In x xs → (before : List A) × (after : List A) × (xs ≡ before ++ x ∷ after)
in_split x [] i = absurd i
in_split x (y ∷ xs) (inl e) = ([], xs, ap (λ z. z ∷ xs) e)
in_split x (y ∷ xs) (inr i) = (let s : (before : List _) × (after : List _) × (xs ≡ before ++ x ∷ after) = in_split x xs i in (y ∷ s.0, s.1, ap (λ z. y ∷ z) s.2))

pub split_in : {A : Type 0} (x : A) (before after : List A) → In x (before ++ x ∷ after)
split_in x before after = in_right x before (x ∷ after) (inl refl)

-- numbers of letters in flight
pub above : (k i : ℕ) (letters : List Letter) (l : Letter) → Counted k letters i → In l letters → k + 1 ≤ l.seq
above k i [] l c j = absurd j
above k i (x ∷ letters) l c (inl e) = omega (arith, c.0, ap (λ (z : Letter). z.seq) e)
above k i (x ∷ letters) l c (inr j) = omega (arith, above (k + 1) i letters l c.1 j)

at_most : (k i : ℕ) (letters : List Letter) → Counted k letters i → k ≤ i
at_most k i [] c = omega (arith, c)
at_most k i (x ∷ letters) c = omega (arith, at_most (k + 1) i letters c.1)

pub below : (k i : ℕ) (letters : List Letter) (l : Letter) → Counted k letters i → In l letters → l.seq ≤ i
below k i [] l c j = absurd j
below k i (x ∷ letters) l c (inl e) = omega (arith, c.0, ap (λ (z : Letter). z.seq) e, at_most (k + 1) i letters c.1)
below k i (x ∷ letters) l c (inr j) = below (k + 1) i letters l c.1 j

-- a letter of a smaller number stands in front
pub in_front : (k i : ℕ) (before : List Letter) (l : Letter) (after : List Letter) (g : Letter) → Counted k (before ++ l ∷ after) i → In g (before ++ l ∷ after) → g.seq + 1 ≤ l.seq → In g before
in_front k i [] l after g c (inl e) h = absurd (omega (arith, h, ap (λ (z : Letter). z.seq) e))
in_front k i [] l after g c (inr j) h = absurd (omega (arith, h, above (k + 1) i after g c.1 j, c.0))
in_front k i (x ∷ before) l after g c (inl e) h = inl e
in_front k i (x ∷ before) l after g c (inr j) h = inr (in_front (k + 1) i before l after g c.1 j h)

-- ## records that no table clears

-- a record has a letter that a table doesn't speak of
abbrev pub FirmAt : Option Numbers → Table → Type 0
FirmAt None x = ⊥
FirmAt (Some r) x = (x.got + 1 ≤ r.sent) ⊎ (x.sent + 1 ≤ r.got)

-- a number is below another, where there is one
abbrev pub IsBefore : Option ℕ → ℕ → Type 0
IsBefore None i = Unit {0}
IsBefore (Some k) i = i + 1 ≤ k

-- a grant of ownership is in flight, in front of letter number k, that each table made before that letter which
-- doesn't list the object was made before; with no number, of every table
pub record Over (o : Traffic) (ts : List Table) (n m : ℕ) (k : Option ℕ) : Type 0 where
  pub grant_letter : Letter
  pub there : In grant_letter (o.channel m n)
  pub brings_it : grant_letter.brings ≡ true
  pub front : IsBefore k grant_letter.seq
  pub later : (x : Table) → In x ts → x.lists ≡ false → IsBefore k x.sent → x.sent + 1 ≤ grant_letter.seq

-- no such table clears the record
abbrev pub IsFirm : Traffic → List Table → ℕ → ℕ → Option ℕ → Type 0
IsFirm o ts n m k = (x : Table) → In x ts → x.lists ≡ false → IsBefore k x.sent → FirmAt (o.entering n m) x

abbrev pub IsSafe : Traffic → List Table → ℕ → ℕ → Option ℕ → Type 0
IsSafe o ts n m k = Over o ts n m k ⊎ IsFirm o ts n m k

abbrev pub Requests : Traffic → (ℕ → ℕ → List Table) → Type 0
Requests o ts = (m n : ℕ) (l : Letter) → In l (o.channel m n) → l.asks ≡ true → IsSafe o (ts m n) n m (Some l.seq)

-- tables say what was issued and taken
abbrev pub Within : Traffic → (ℕ → ℕ → List Table) → Type 0
Within o ts = (m n : ℕ) (x : Table) → In x (ts m n) → (x.sent ≤ o.issued m n) × (x.got ≤ o.taken m n)

pub record IsTabled (o : Traffic) (ts : ℕ → ℕ → List Table) : Type 0 where
  pub within : Within o ts
  pub parents : (m n : ℕ) → o.looks m n ≡ true → IsSafe o (ts m n) n m None
  pub requests : Requests o ts

-- ## letters issued

firm_sent : (x : Table) (seq : ℕ) (r : Option Numbers) → FirmAt r x → FirmAt (Some (sent_in seq r)) x
firm_sent x seq None f = absurd f
firm_sent x seq (Some r) (inl f) = inl (omega (arith, f))
firm_sent x seq (Some r) (inr f) = inr f

firm_got : (x : Table) (seq : ℕ) (r : Option Numbers) → FirmAt r x → FirmAt (Some (got_in seq r)) x
firm_got x seq None f = absurd f
firm_got x seq (Some r) (inl f) = inl f
firm_got x seq (Some r) (inr f) = inr (omega (arith, f))

got_here : (seq : ℕ) (r : Option Numbers) → seq ≤ (got_in seq r).got
got_here seq None = omega arith
got_here seq (Some r) = omega arith

issue_firm : (o : Traffic) (me : ℕ) (d : Unnumbered) (n m : ℕ) (x : Table) → FirmAt (o.entering n m) x → FirmAt ((issue o me d).entering n m) x
issue_firm o me d n m x f = issue_entering (λ r. FirmAt r x) (firm_sent x) o me d n m f

issue_way : (o : Traffic) (me : ℕ) (d : Unnumbered) (m n : ℕ) (l : Letter) → In l (o.channel m n) → In l ((issue o me d).channel m n)
issue_way o me d m n l i = put_at-all (λ j k w. In l (o.channel j k) → In l w) o.channel me d.to _ (in_left l (o.channel me d.to) _) (λ j k c x. x) m n i

-- a letter in flight was there, or is the one issued
data Newly (o : Traffic) (me : ℕ) (d : Unnumbered) (m n : ℕ) (l : Letter) : Type 0 where
  Old : In l (o.channel m n) → Newly o me d m n l
  New : m ≡ me → n ≡ d.to → numbered (o.issued me d.to + 1) d ≡ l → Newly o me d m n l

issue_new : (o : Traffic) (me : ℕ) (d : Unnumbered) (m n : ℕ) (l : Letter) → In l ((issue o me d).channel m n) → Newly o me d m n l
issue_new o me d m n l i = put_at-all (λ j k w. In l w → Newly o me d j k l) o.channel me d.to _ (λ x. by_place (in_either l (o.channel me d.to) _ x)) (λ j k c x. Old x) m n i
  where
    by_place : In l (o.channel me d.to) ⊎ In l (numbered (o.issued me d.to + 1) d ∷ []) → Newly o me d me d.to l
    by_place (inl j) = Old j
    by_place (inr (inl j)) = New refl refl j
    by_place (inr (inr j)) = absurd j

-- a grant in flight, wherever it then stands, and the records that grow
moved_safe : (o p : Traffic) (ts : List Table) (n m : ℕ) (k : Option ℕ) → ((l : Letter) → In l (o.channel m n) → In l (p.channel m n)) →
    ((x : Table) → FirmAt (o.entering n m) x → FirmAt (p.entering n m) x) → IsSafe o ts n m k → IsSafe p ts n m k
moved_safe o p ts n m k channel firm (inl v) = inl record { grant_letter = v.grant_letter; there = channel v.grant_letter v.there; brings_it = v.brings_it; front = v.front; later = v.later }
moved_safe o p ts n m k channel firm (inr f) = inr (λ x i u b. firm x (f x i u b))

pub issue_safe : (o : Traffic) (me : ℕ) (d : Unnumbered) (ts : List Table) (n m : ℕ) (k : Option ℕ) → IsSafe o ts n m k → IsSafe (issue o me d) ts n m k
issue_safe o me d ts n m k = moved_safe o (issue o me d) ts n m k (issue_way o me d m n) (issue_firm o me d n m)

issue_all_safe : (o : Traffic) (me : ℕ) (drafts : List Unnumbered) (ts : List Table) (n m : ℕ) (k : Option ℕ) → IsSafe o ts n m k → IsSafe (issue_all o me drafts) ts n m k
issue_all_safe o me [] ts n m k h = h
issue_all_safe o me (d ∷ drafts) ts n m k h = issue_all_safe (issue o me d) me drafts ts n m k (issue_safe o me d ts n m k h)

-- a request is issued to a node where it is safe
pub issue_requests : (o : Traffic) (me : ℕ) (d : Unnumbered) (ts : ℕ → ℕ → List Table) → IsCounted o → (d.asks ≡ true → IsSafe o (ts me d.to) d.to me None) → Requests o ts → Requests (issue o me d) ts
issue_requests o me d ts c safe r m n l i a = issue_safe o me d (ts m n) n m (Some l.seq) (by_new (issue_new o me d m n l i))
  where
    safe_for : IsSafe o (ts me d.to) d.to me None → IsSafe o (ts me d.to) d.to me (Some (o.issued me d.to + 1))
    safe_for (inl v) = inl record {
      grant_letter = v.grant_letter;
      there = v.there;
      brings_it = v.brings_it;
      front = omega (arith, below (o.taken d.to me) (o.issued me d.to) (o.channel me d.to) v.grant_letter (c.channels me d.to) v.there);
      later = λ x j u b. v.later x j u tt;
    }
    safe_for (inr f) = inr (λ x j u b. f x j u tt)

    by_new : Newly o me d m n l → IsSafe o (ts m n) n m (Some l.seq)
    by_new (Old j) = r m n l j a
    by_new (New e f g) = subst (λ k. IsSafe o (ts m n) n m (Some k)) (ap (λ (z : Letter). z.seq) g)
        (subst₂ (λ p q. IsSafe o (ts p q) q p (Some (o.issued me d.to + 1))) (sym e) (sym f) (safe_for (safe (ap (λ (z : Letter). z.asks) g ∙ a))))

-- each letter that asks goes to one of these
abbrev pub AskThose : (ℕ → Type 0) → List Unnumbered → Type 0
AskThose A [] = Unit {0}
AskThose A (d ∷ drafts) = (d.asks ≡ true → A d.to) × AskThose A drafts

pub ask_others : {A B : ℕ → Type 0} → ((n : ℕ) → A n → B n) → (drafts : List Unnumbered) → AskThose A drafts → AskThose B drafts
ask_others f [] h = tt
ask_others f (d ∷ drafts) h = (λ x. f d.to (h.0 x), ask_others f drafts h.1)

issue_all_requests : (o : Traffic) (me : ℕ) (drafts : List Unnumbered) (ts : ℕ → ℕ → List Table) → IsCounted o → AskThose (λ n. IsSafe o (ts me n) n me None) drafts → Requests o ts → Requests (issue_all o me drafts) ts
issue_all_requests o me [] ts c those r = r
issue_all_requests o me (d ∷ drafts) ts c those r =
    issue_all_requests (issue o me d) me drafts ts (issue_counted o me d c) (ask_others (λ n h. issue_safe o me d (ts me n) n me None h) drafts those.1)
    (issue_requests o me d ts c those.0 r)

pub issue_within : (o : Traffic) (me : ℕ) (d : Unnumbered) (ts : ℕ → ℕ → List Table) → Within o ts → Within (issue o me d) ts
issue_within o me d ts w m n x i = (
  elim (pair_cases me d.to m n) [
    | Both e f ↦ subst₂ (λ a b. x.sent ≤ (issue o me d).issued a b) (sym e) (sym f)
        (omega (arith, put_at-here o.issued me d.to (o.issued me d.to + 1), subst₂ (λ a b. x.sent ≤ o.issued a b) e f (w m n x i).0))
    | Other c ↦ omega (arith, put_at-apart o.issued me d.to (o.issued me d.to + 1) m n c, (w m n x i).0)
  ],
  (w m n x i).1,
)

issue_all_within : (o : Traffic) (me : ℕ) (drafts : List Unnumbered) (ts : ℕ → ℕ → List Table) → Within o ts → Within (issue_all o me drafts) ts
issue_all_within o me [] ts w = w
issue_all_within o me (d ∷ drafts) ts w = issue_all_within (issue o me d) me drafts ts (issue_within o me d ts w)

issue_all_looks : (o : Traffic) (me : ℕ) (drafts : List Unnumbered) → (issue_all o me drafts).looks ≡ o.looks
issue_all_looks o me [] = refl
issue_all_looks o me (d ∷ drafts) = issue_all_looks (issue o me d) me drafts

-- ## letters taken

taking_way : (o : Traffic) (from me : ℕ) (l : Letter) (rest : List Letter) → o.channel from me ≡ l ∷ rest → (m n : ℕ) (g : Letter) → In g (o.channel m n) →
    In g ((taking o from me l rest).channel m n) ⊎ ((m ≡ from) × (n ≡ me) × (l ≡ g))
taking_way o from me l rest channel m n g i =
    put_at-all (λ j k w. In g (o.channel j k) → In g w ⊎ ((j ≡ from) × (k ≡ me) × (l ≡ g))) o.channel from me rest (λ x. by_place (subst (In g) channel x)) (λ j k c x. inl x) m n i
  where
    by_place : In g (l ∷ rest) → In g rest ⊎ ((from ≡ from) × (me ≡ me) × (l ≡ g))
    by_place (inl j) = inr (refl, refl, j)
    by_place (inr j) = inl j

taking_was : (o : Traffic) (from me : ℕ) (l : Letter) (rest : List Letter) → o.channel from me ≡ l ∷ rest → (m n : ℕ) (g : Letter) → In g ((taking o from me l rest).channel m n) → In g (o.channel m n)
taking_was o from me l rest channel m n g i = put_at-all (λ j k w. In g w → In g (o.channel j k)) o.channel from me rest (λ x. subst (In g) (sym channel) (inr x)) (λ j k c x. x) m n i

taking_firm : (o : Traffic) (from me : ℕ) (l : Letter) (rest : List Letter) (n m : ℕ) (x : Table) → FirmAt (o.entering n m) x → FirmAt ((taking o from me l rest).entering n m) x
taking_firm o from me l rest n m x f = taking_entering (λ r. FirmAt r x) (firm_got x) o from me l rest n m f

-- the record once the grant was taken
brought_firm : (o : Traffic) (from me : ℕ) (l : Letter) (rest : List Letter) → l.brings ≡ true → (x : Table) → x.sent + 1 ≤ l.seq → FirmAt ((taking o from me l rest).entering me from) x
brought_firm o from me l rest b x h = subst (λ z. FirmAt z x) (sym (taking_here o from me l rest b)) (inr (omega (arith, h, got_here l.seq (o.entering me from))))

pub taking_safe : (o : Traffic) (from me : ℕ) (l : Letter) (rest : List Letter) → o.channel from me ≡ l ∷ rest → (ts : List Table) (n m : ℕ) (k : Option ℕ) → IsSafe o ts n m k → IsSafe (taking o from me l rest) ts n m k
taking_safe o from me l rest channel ts n m k (inr f) = inr (λ x i u b. taking_firm o from me l rest n m x (f x i u b))
taking_safe o from me l rest channel ts n m k (inl v) = by_place (taking_way o from me l rest channel m n v.grant_letter v.there)
  where
    by_place : In v.grant_letter ((taking o from me l rest).channel m n) ⊎ ((m ≡ from) × (n ≡ me) × (l ≡ v.grant_letter)) → IsSafe (taking o from me l rest) ts n m k
    by_place (inl j) = inl record { grant_letter = v.grant_letter; there = j; brings_it = v.brings_it; front = v.front; later = v.later }
    by_place (inr e) = inr (λ x i u b. subst₂ (λ y z. FirmAt ((taking o from me l rest).entering y z) x) (sym e.1) (sym e.0)
        (brought_firm o from me l rest (ap (λ (z : Letter). z.brings) e.2 ∙ v.brings_it) x (omega (arith, v.later x i u b, ap (λ (z : Letter). z.seq) e.2))))

taking_within : (o : Traffic) (from me : ℕ) (l : Letter) (rest : List Letter) (ts : ℕ → ℕ → List Table) → Within o ts → Within (taking o from me l rest) ts
taking_within o from me l rest ts w m n x i =
    ((w m n x i).0, put_at-all (λ j k z. x.got ≤ o.taken j k → x.got ≤ z) o.taken me from _ (λ h. omega (arith, h)) (λ j k c h. h) m n (w m n x i).1)

pub taking_tabled : (o : Traffic) (from me : ℕ) (l : Letter) (rest : List Letter) (ts : ℕ → ℕ → List Table) → o.channel from me ≡ l ∷ rest → IsTabled o ts → IsTabled (taking o from me l rest) ts
taking_tabled o from me l rest ts channel t = record {
  within = taking_within o from me l rest ts t.within;
  parents = λ m n e. taking_safe o from me l rest channel (ts m n) n m None (t.parents m n e);
  requests = λ m n k i a. taking_safe o from me l rest channel (ts m n) n m (Some k.seq) (t.requests m n k (taking_was o from me l rest channel m n k i) a);
}

-- who gave the object in the letter that was taken is safe to look to
pub giver_safe : (o : Traffic) (from me : ℕ) (l : Letter) (rest : List Letter) (ts : ℕ → ℕ → List Table) → o.channel from me ≡ l ∷ rest → IsCounted o → Within o ts →
    (r : Numbers) → o.entering from me ≡ Some r → l.seq ≤ r.sent → IsSafe o (ts me from) from me None
giver_safe o from me l rest ts channel c w r has there = inr (λ x i u b. subst (λ z. FirmAt z x) (sym has) (inl (omega (arith, (w me from x i).1, there, first.0))))
  where
    first : Counted (o.taken me from) (l ∷ rest) (o.issued from me)
    first = subst (λ z. Counted (o.taken me from) z (o.issued from me)) channel (c.channels from me)

-- ## a node's transition

-- after a transition a node looks to a node that is safe to look to, or to whom it hands ownership over first
pub data Turned (A : ℕ → Type 0) (row : ℕ → Bool) (drafts : List Unnumbered) : Type 0 where
  -- all it looks to and asks is safe
  Safely : ((n : ℕ) → row n ≡ true → A n) → AskThose A drafts → Turned A row drafts
  -- it hands ownership over, and asks only its taker
  Handing : (d : Unnumbered) (rest : List Unnumbered) → drafts ≡ d ∷ rest → d.brings ≡ true → d.asks ≡ false → ((n : ℕ) → row n ≡ true → d.to ≡ n) → AskThose (λ n. d.to ≡ n) rest →
      Turned A row drafts

pub turned_tabled : (o : Traffic) (me : ℕ) (row : ℕ → Bool) (drafts : List Unnumbered) (ts : ℕ → ℕ → List Table) → IsCounted o → IsTabled o ts →
    Turned (λ n. IsSafe o (ts me n) n me None) row drafts → IsTabled (issue_all (looking o me row) me drafts) ts
turned_tabled o me row drafts ts c t transition = record {
  within = issue_all_within q me drafts ts t.within;
  parents = λ m n e. by_case m n (subst (λ (f : ℕ → ℕ → Bool). f m n ≡ true) (issue_all_looks q me drafts) e) (cases m me);
  requests = requests transition;
}
  where
    q : Traffic
    q = looking o me row

    cq : IsCounted q
    cq = record { channels = c.channels }

    -- what is safe doesn't see who looks to whom
    seen : (ks : List Table) (n m : ℕ) (k : Option ℕ) → IsSafe o ks n m k → IsSafe q ks n m k
    seen ks n m k = moved_safe o q ks n m k (λ l i. i) (λ x f. f)

    -- the grant of ownership that was just issued
    granted : (d : Unnumbered) → d.brings ≡ true → IsSafe (issue q me d) (ts me d.to) d.to me None
    granted d b = inl record {
      grant_letter = numbered (o.issued me d.to + 1) d;
      there = subst (In (numbered (o.issued me d.to + 1) d)) (sym (put_at-here o.channel me d.to (o.channel me d.to ++ numbered (o.issued me d.to + 1) d ∷ [])))
          (in_right (numbered (o.issued me d.to + 1) d) (o.channel me d.to) (numbered (o.issued me d.to + 1) d ∷ []) (inl refl));
      brings_it = b;
      front = tt;
      later = λ x i u z. omega (arith, (t.within me d.to x i).0);
    }

    mine : Turned (λ n. IsSafe o (ts me n) n me None) row drafts → (n : ℕ) → row n ≡ true → IsSafe (issue_all q me drafts) (ts me n) n me None
    mine (Safely looks asks) n e = issue_all_safe q me drafts (ts me n) n me None (seen (ts me n) n me None (looks n e))
    mine (Handing d rest is b a looks asks) n e = subst (λ z. IsSafe (issue_all q me drafts) (ts me z) z me None) (looks n e)
        (subst (λ z. IsSafe (issue_all q me z) (ts me d.to) d.to me None) (sym is) (issue_all_safe (issue q me d) me rest (ts me d.to) d.to me None (granted d b)))

    by_case : (m n : ℕ) → put o.looks me row m n ≡ true → Cases m me → IsSafe (issue_all q me drafts) (ts m n) n m None
    by_case m n e (Same f u) = subst (λ z. IsSafe (issue_all q me drafts) (ts z n) n z None) (sym f)
        (mine transition n (sym (ap (λ (z : Bool). (cond z row (o.looks m)) n) u) ∙ e))
    by_case m n e (Apart f u) = issue_all_safe q me drafts (ts m n) n m None (seen (ts m n) n m None (t.parents m n (sym (ap (λ (z : Bool). (cond z row (o.looks m)) n) u) ∙ e)))

    requests : Turned (λ n. IsSafe o (ts me n) n me None) row drafts → Requests (issue_all q me drafts) ts
    requests (Safely looks asks) = issue_all_requests q me drafts ts cq (ask_others (λ n h. seen (ts me n) n me None h) drafts asks) (λ m n l i a. seen (ts m n) n m (Some l.seq) (t.requests m n l i a))
    requests (Handing d rest is b a looks asks) = subst (λ z. Requests (issue_all q me z) ts) (sym is)
        (issue_all_requests (issue q me d) me rest ts (issue_counted q me d cq)
        (ask_others (λ n h. subst (λ z. IsSafe (issue q me d) (ts me z) z me None) h (granted d b)) rest asks)
        (issue_requests q me d ts cq (λ x. (let both : true ≡ false = sym x ∙ a in absurd cc)) (λ m n l i a. seen (ts m n) n m (Some l.seq) (t.requests m n l i a))))

-- ## a record is cleared

abbrev pub cleared : Traffic → ℕ → ℕ → Traffic
cleared o n m = record o { entering = put_at o.entering n m None }

-- a table by which a record may be cleared finds it firm nowhere
not_firm : (q : Option Numbers) (x : Table) (r : Numbers) → q ≡ Some r → r.sent ≤ x.got → r.got ≤ x.sent → FirmAt q x → ⊥
not_firm q x r at sent got f = by_side (subst (λ z. FirmAt z x) at f)
  where
    by_side : (x.got + 1 ≤ r.sent) ⊎ (x.sent + 1 ≤ r.got) → ⊥
    by_side (inl h) = absurd (omega (arith, h, sent))
    by_side (inr h) = absurd (omega (arith, h, got))

-- then who looks to the node has a grant of ownership in flight, and each request has one in front of it
pub clears_over : (o : Traffic) (ts : ℕ → ℕ → List Table) (n m : ℕ) (x : Table) (r : Numbers) → In x (ts m n) → x.lists ≡ false → o.entering n m ≡ Some r →
    r.sent ≤ x.got → r.got ≤ x.sent → IsTabled o ts → o.looks m n ≡ true → Over o (ts m n) n m None
clears_over o ts n m x r there unlisted at sent got t e = by_safe (t.parents m n e)
  where
    by_safe : IsSafe o (ts m n) n m None → Over o (ts m n) n m None
    by_safe (inl v) = v
    by_safe (inr f) = absurd (not_firm (o.entering n m) x r at sent got (f x there unlisted tt))

pub clears_front : (o : Traffic) (ts : ℕ → ℕ → List Table) (n m : ℕ) (x : Table) (r : Numbers) → In x (ts m n) → x.lists ≡ false → o.entering n m ≡ Some r →
    x.sent ≤ o.taken n m → r.sent ≤ x.got → r.got ≤ x.sent → IsCounted o → IsTabled o ts →
    (l : Letter) (before after : List Letter) → o.channel m n ≡ before ++ l ∷ after → l.asks ≡ true → (g : Letter) × In g before × (g.brings ≡ true)
clears_front o ts n m x r there unlisted at early sent got c t l before after e a = by_request (t.requests m n l inside a)
  where
    inside : In l (o.channel m n)
    inside = subst (In l) (sym e) (split_in l before after)

    late : o.taken n m + 1 ≤ l.seq
    late = above (o.taken n m) (o.issued m n) (o.channel m n) l (c.channels m n) inside

    by_request : IsSafe o (ts m n) n m (Some l.seq) → (g : Letter) × In g before × (g.brings ≡ true)
    by_request (inl v) = (
      v.grant_letter,
      in_front (o.taken n m) (o.issued m n) before l after v.grant_letter (subst (λ w. Counted (o.taken n m) w (o.issued m n)) e (c.channels m n)) (subst (In v.grant_letter) e v.there) v.front,
      v.brings_it,
    )
    by_request (inr f) = absurd (not_firm (o.entering n m) x r at sent got (f x there unlisted (omega (arith, early, late))))

pub cleared_tabled : (o : Traffic) (ts : ℕ → ℕ → List Table) (n m : ℕ) (x : Table) (r : Numbers) → In x (ts m n) → x.lists ≡ false → o.entering n m ≡ Some r →
    x.sent ≤ o.taken n m → r.sent ≤ x.got → r.got ≤ x.sent → IsCounted o → IsTabled o ts → IsTabled (cleared o n m) ts
cleared_tabled o ts n m x r there unlisted at early sent got c t = record {
  within = t.within;
  parents = λ k j e. safe k j None (λ a b. tt) (t.parents k j e);
  requests = λ k j l i a. safe k j (Some l.seq) (late k j l i) (t.requests k j l i a);
}
  where
    -- the record that is cleared was firm nowhere
    safe : (k j : ℕ) (s : Option ℕ) → (j ≡ n → k ≡ m → IsBefore s x.sent) → IsSafe o (ts k j) j k s → IsSafe (cleared o n m) (ts k j) j k s
    safe k j s early (inl v) = inl record { grant_letter = v.grant_letter; there = v.there; brings_it = v.brings_it; front = v.front; later = v.later }
    safe k j s early (inr f) = elim (pair_cases n m j k) [
      | Both a b ↦ absurd (not_firm (o.entering n m) x r at sent got
          (subst₂ (λ y z. FirmAt (o.entering y z) x) a b (f x (subst₂ (λ y z. In x (ts z y)) (sym a) (sym b) there) unlisted (early a b))))
      | Other d ↦ inr (λ y h u b. subst (λ z. FirmAt z y) (sym (put_at-apart o.entering n m None j k d)) (f y h u b))
    ]

    late : (k j : ℕ) (l : Letter) → In l (o.channel k j) → j ≡ n → k ≡ m → x.sent + 1 ≤ l.seq
    late k j l i a b =
        let same_taken : o.taken j k ≡ o.taken n m = subst₂ (λ y z. o.taken j k ≡ o.taken y z) a b refl in
        omega (arith, early, above (o.taken j k) (o.issued k j) (o.channel k j) l (c.channels k j) i, same_taken)

-- ## a table more

pub tabulated : (o : Traffic) (ts : ℕ → ℕ → List Table) (m n : ℕ) → IsCounted o → IsTabled o ts →
    IsTabled o (put_at ts m n (ts m n ++ record { sent = o.issued m n; got = o.taken m n; lists = o.looks m n } ∷ []))
tabulated o ts m n c t = record {
  within = within;
  parents = λ k j e. safe k j None (λ x i u b. old_only k j e x i u) (t.parents k j e);
  requests = λ k j l i a. safe k j (Some l.seq) (λ x h u b. old_before k j l i x h b) (t.requests k j l i a);
}
  where
    new : Table
    new = record { sent = o.issued m n; got = o.taken m n; lists = o.looks m n }

    us : ℕ → ℕ → List Table
    us = put_at ts m n (ts m n ++ new ∷ [])

    from_old : (k j : ℕ) (x : Table) → In x (us k j) → In x (ts k j) ⊎ ((k ≡ m) × (j ≡ n) × (new ≡ x))
    from_old k j x i = put_at-all (λ k j w. In x w → In x (ts k j) ⊎ ((k ≡ m) × (j ≡ n) × (new ≡ x))) ts m n _ (λ z. by_place (in_either x (ts m n) (new ∷ []) z)) (λ k j c z. inl z) k j i
      where
        by_place : In x (ts m n) ⊎ In x (new ∷ []) → In x (ts m n) ⊎ ((m ≡ m) × (n ≡ n) × (new ≡ x))
        by_place (inl h) = inl h
        by_place (inr (inl h)) = inr (refl, refl, h)
        by_place (inr (inr h)) = absurd h

    within : Within o us
    within k j x i = by_old (from_old k j x i)
      where
        by_old : In x (ts k j) ⊎ ((k ≡ m) × (j ≡ n) × (new ≡ x)) → (x.sent ≤ o.issued k j) × (x.got ≤ o.taken k j)
        by_old (inl h) = t.within k j x h
        by_old (inr e) = subst (λ z. (z.sent ≤ o.issued k j) × (z.got ≤ o.taken k j)) e.2
            (subst₂ (λ y z. (o.issued m n ≤ o.issued y z) × (o.taken m n ≤ o.taken y z)) (sym e.0) (sym e.1) (omega arith, omega arith))

    -- a new table lists the object where its maker looks to the other
    old_only : (k j : ℕ) → o.looks k j ≡ true → (x : Table) → In x (us k j) → x.lists ≡ false → In x (ts k j)
    old_only k j e x i u = by_old (from_old k j x i)
      where
        by_old : In x (ts k j) ⊎ ((k ≡ m) × (j ≡ n) × (new ≡ x)) → In x (ts k j)
        by_old (inl h) = h
        by_old (inr f) =
            let says : o.looks m n ≡ true = subst₂ (λ y z. o.looks y z ≡ true) f.0 f.1 e in
            let both : true ≡ false = sym says ∙ ap (λ (z : Table). z.lists) f.2 ∙ u in
            absurd cc

    -- a new table was made after each letter in flight
    old_before : (k j : ℕ) (l : Letter) → In l (o.channel k j) → (x : Table) → In x (us k j) → x.sent + 1 ≤ l.seq → In x (ts k j)
    old_before k j l there x i b = by_old (from_old k j x i)
      where
        by_old : In x (ts k j) ⊎ ((k ≡ m) × (j ≡ n) × (new ≡ x)) → In x (ts k j)
        by_old (inl h) = h
        by_old (inr f) =
            let last : l.seq ≤ o.issued k j = below (o.taken j k) (o.issued k j) (o.channel k j) l (c.channels k j) there in
            let all : l.seq ≤ o.issued m n = subst₂ (λ y z. l.seq ≤ o.issued y z) f.0 f.1 last in
            absurd (omega (arith, all, b, ap (λ (z : Table). z.sent) f.2))

    -- so that what was safe stays so
    safe : (k j : ℕ) (s : Option ℕ) → ((x : Table) → In x (us k j) → x.lists ≡ false → IsBefore s x.sent → In x (ts k j)) → IsSafe o (ts k j) j k s → IsSafe o (us k j) j k s
    safe k j s old (inl v) = inl record { grant_letter = v.grant_letter; there = v.there; brings_it = v.brings_it; front = v.front; later = λ x i u b. v.later x (old x i u b) u b }
    safe k j s old (inr f) = inr (λ x i u b. f x (old x i u b) u b)
