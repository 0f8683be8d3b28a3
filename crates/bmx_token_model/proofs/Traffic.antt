-- The traffic that tables speak of: whom each node looks to, the letters in flight with what they ask, give and
-- bring, the entering records and the counts of letters; and how letters are numbered in it.
use Rattle.std.proofs.Common.{◌≡◌, ◌⊎◌, inl, inr, ℕ, ◌+◌, ◌≤◌, arith, List, [], ◌∷◌, ◌++◌, refl, ap, sym, subst, subst₂, ◌∙◌, Bool, true, false, cond}
use Rattle.std.specs.Prelude.{if◌then◌else◌, Option, Some, None}
use Rattle.bmx_types.specs.Updates.{put, put_at}
use Rattle.bmx_token_model.specs.Machine.{Numbers, sent_in, got_in}
use Rattle.bmx_token_model.proofs.Tallies.{put_at-here, put_at-apart, put_at-all, put_at-both, Both, Other, pair_cases}

pub record Letter : Type 0 where
  pub seq : ℕ
  pub asks : Bool
  pub gives : Bool
  pub brings : Bool

pub record Traffic : Type 0 where
  pub looks : ℕ → ℕ → Bool
  pub channel : ℕ → ℕ → List Letter
  pub entering : ℕ → ℕ → Option Numbers
  pub issued : ℕ → ℕ → ℕ
  pub taken : ℕ → ℕ → ℕ

-- a letter to a node, before it has a number
pub record Unnumbered : Type 0 where
  pub to : ℕ
  pub asks : Bool
  pub gives : Bool
  pub brings : Bool

abbrev pub numbered : ℕ → Unnumbered → Letter
numbered seq d = record { seq = seq; asks = d.asks; gives = d.gives; brings = d.brings }

-- node me issues a letter, and all of some
abbrev pub issue : Traffic → ℕ → Unnumbered → Traffic
issue o me d =
    let seq : ℕ = o.issued me d.to + 1 in
    record o {
      channel = put_at o.channel me d.to (o.channel me d.to ++ numbered seq d ∷ []);
      entering = if d.gives then put_at o.entering me d.to (Some (sent_in seq (o.entering me d.to))) else o.entering;
      issued = put_at o.issued me d.to seq;
    }

abbrev pub issue_all : Traffic → ℕ → List Unnumbered → Traffic
issue_all o me [] = o
issue_all o me (d ∷ drafts) = issue_all (issue o me d) me drafts

-- it takes the first letter from another
abbrev pub taking : Traffic → ℕ → ℕ → Letter → List Letter → Traffic
taking o from me l rest = record o {
  channel = put_at o.channel from me rest;
  entering = if l.brings then put_at o.entering me from (Some (got_in l.seq (o.entering me from))) else o.entering;
  taken = put_at o.taken me from (o.taken me from + 1);
}

-- it looks to these from now on
abbrev pub looking : Traffic → ℕ → (ℕ → Bool) → Traffic
looking o me row = record o { looks = put o.looks me row }

-- ## numbers

-- letters are numbered from the one after k up to i
abbrev pub Counted : ℕ → List Letter → ℕ → Type 0
Counted k [] i = k ≡ i
Counted k (l ∷ letters) i = (l.seq ≡ k + 1) × Counted (k + 1) letters i

counted_more : (letters : List Letter) (k i : ℕ) (l : Letter) → Counted k letters i → l.seq ≡ i + 1 → Counted k (letters ++ l ∷ []) (i + 1)
counted_more [] k i l h e = (omega (arith, h, e), omega (arith, h))
counted_more (a ∷ letters) k i l h e = (h.0, counted_more letters (k + 1) i l h.1 e)

-- the letters in flight follow those that were taken, and end with the last issued
pub record IsCounted (o : Traffic) : Type 0 where
  pub channels : (n m : ℕ) → Counted (o.taken m n) (o.channel n m) (o.issued n m)

pub issue_counted : (o : Traffic) (me : ℕ) (d : Unnumbered) → IsCounted o → IsCounted (issue o me d)
issue_counted o me d c = record {
  channels = put_at-both (λ n m w i. Counted (o.taken m n) w i) o.channel o.issued me d.to _ _
      (counted_more (o.channel me d.to) (o.taken d.to me) (o.issued me d.to) (numbered (o.issued me d.to + 1) d) (c.channels me d.to) refl) (λ n m h. c.channels n m);
}

turned : {A B : Type 0} → A ⊎ B → B ⊎ A
turned (inl a) = inr a
turned (inr b) = inl b

pub taking_counted : (o : Traffic) (from me : ℕ) (l : Letter) (rest : List Letter) → o.channel from me ≡ l ∷ rest → IsCounted o → IsCounted (taking o from me l rest)
taking_counted o from me l rest channel c = record {
  channels = λ n m. elim (pair_cases from me n m) [
    | Both e f ↦ subst₂ (λ x y. Counted ((taking o from me l rest).taken y x) ((taking o from me l rest).channel x y) (o.issued x y)) (sym e) (sym f) here
    | Other h ↦ subst₂ (λ t w. Counted t w (o.issued n m)) (sym (put_at-apart o.taken me from _ m n (turned h))) (sym (put_at-apart o.channel from me rest n m h)) (c.channels n m)
  ];
}
  where
    first : Counted (o.taken me from) (l ∷ rest) (o.issued from me)
    first = subst (λ w. Counted (o.taken me from) w (o.issued from me)) channel (c.channels from me)

    here : Counted ((taking o from me l rest).taken me from) ((taking o from me l rest).channel from me) (o.issued from me)
    here = subst₂ (λ t w. Counted t w (o.issued from me)) (sym (put_at-here o.taken me from _)) (sym (put_at-here o.channel from me rest)) first.1

-- ## records

-- a record that grows keeps what a later letter keeps
pub issue_entering : (Q : Option Numbers → Type 0) → ((seq : ℕ) (r : Option Numbers) → Q r → Q (Some (sent_in seq r))) →
    (o : Traffic) (me : ℕ) (d : Unnumbered) (n m : ℕ) → Q (o.entering n m) → Q ((issue o me d).entering n m)
issue_entering Q more o me d n m h = by_test d.gives
  where
    by_test : (t : Bool) → Q ((cond t (put_at o.entering me d.to (Some (sent_in (o.issued me d.to + 1) (o.entering me d.to)))) o.entering) n m)
    by_test true = put_at-all (λ j k r. Q (o.entering j k) → Q r) o.entering me d.to _ (more (o.issued me d.to + 1) (o.entering me d.to)) (λ j k c x. x) n m h
    by_test false = h

pub taking_entering : (Q : Option Numbers → Type 0) → ((seq : ℕ) (r : Option Numbers) → Q r → Q (Some (got_in seq r))) →
    (o : Traffic) (from me : ℕ) (l : Letter) (rest : List Letter) (n m : ℕ) → Q (o.entering n m) → Q ((taking o from me l rest).entering n m)
taking_entering Q more o from me l rest n m h = by_test l.brings
  where
    by_test : (t : Bool) → Q ((cond t (put_at o.entering me from (Some (got_in l.seq (o.entering me from)))) o.entering) n m)
    by_test true = put_at-all (λ j k r. Q (o.entering j k) → Q r) o.entering me from _ (more l.seq (o.entering me from)) (λ j k c x. x) n m h
    by_test false = h

-- the record of a letter that gives the object, and of one that brings it over
pub issue_here : (o : Traffic) (me : ℕ) (d : Unnumbered) → d.gives ≡ true → (issue o me d).entering me d.to ≡ Some (sent_in (o.issued me d.to + 1) (o.entering me d.to))
issue_here o me d g =
    ap (λ (t : Bool). (cond t (put_at o.entering me d.to (Some (sent_in (o.issued me d.to + 1) (o.entering me d.to)))) o.entering) me d.to) g
    ∙ put_at-here o.entering me d.to (Some (sent_in (o.issued me d.to + 1) (o.entering me d.to)))

pub taking_here : (o : Traffic) (from me : ℕ) (l : Letter) (rest : List Letter) → l.brings ≡ true → (taking o from me l rest).entering me from ≡ Some (got_in l.seq (o.entering me from))
taking_here o from me l rest b =
    ap (λ (t : Bool). (cond t (put_at o.entering me from (Some (got_in l.seq (o.entering me from)))) o.entering) me from) b
    ∙ put_at-here o.entering me from (Some (got_in l.seq (o.entering me from)))

-- a record is within what was issued and taken
abbrev pub Bounded : Option Numbers → ℕ → ℕ → Type 0
Bounded None i t = Unit {0}
Bounded (Some r) i t = (r.sent ≤ i) × (r.got ≤ t)

pub record IsBounded (o : Traffic) : Type 0 where
  pub records : (n m : ℕ) → Bounded (o.entering n m) (o.issued n m) (o.taken n m)

bounded_more : (r : Option Numbers) (i j t u : ℕ) → i ≤ j → t ≤ u → Bounded r i t → Bounded r j u
bounded_more None i j t u h k b = tt
bounded_more (Some r) i j t u h k b = (omega (arith, b.0, h), omega (arith, b.1, k))

bounded_sent : (r : Option Numbers) (i t : ℕ) → Bounded r i t → Bounded (Some (sent_in (i + 1) r)) (i + 1) t
bounded_sent None i t b = (omega arith, omega arith)
bounded_sent (Some r) i t b = (omega (arith, b.0), b.1)

bounded_got : (r : Option Numbers) (i t : ℕ) → Bounded r i t → Bounded (Some (got_in (t + 1) r)) i (t + 1)
bounded_got None i t b = (omega arith, omega arith)
bounded_got (Some r) i t b = (b.0, omega (arith, b.1))

pub issue_bounded : (o : Traffic) (me : ℕ) (d : Unnumbered) → IsBounded o → IsBounded (issue o me d)
issue_bounded o me d b = record { records = λ n m. by_test n m d.gives }
  where
    seq : ℕ
    seq = o.issued me d.to + 1

    by_test : (n m : ℕ) (t : Bool) → Bounded ((cond t (put_at o.entering me d.to (Some (sent_in seq (o.entering me d.to)))) o.entering) n m) (put_at o.issued me d.to seq n m) (o.taken n m)
    by_test n m false = put_at-all (λ j k i. Bounded (o.entering j k) i (o.taken j k)) o.issued me d.to seq
        (bounded_more (o.entering me d.to) _ _ _ _ (omega arith) (omega arith) (b.records me d.to)) (λ j k c. b.records j k) n m
    by_test n m true = put_at-both (λ j k r i. Bounded r i (o.taken j k)) o.entering o.issued me d.to _ seq
        (bounded_sent (o.entering me d.to) (o.issued me d.to) (o.taken me d.to) (b.records me d.to)) (λ j k c. b.records j k) n m

pub taking_bounded : (o : Traffic) (from me : ℕ) (l : Letter) (rest : List Letter) → o.channel from me ≡ l ∷ rest → IsCounted o → IsBounded o → IsBounded (taking o from me l rest)
taking_bounded o from me l rest channel c b = record { records = λ n m. by_test n m l.brings }
  where
    first : l.seq ≡ o.taken me from + 1
    first = (subst (λ w. Counted (o.taken me from) w (o.issued from me)) channel (c.channels from me)).0

    by_test : (n m : ℕ) (t : Bool) → Bounded ((cond t (put_at o.entering me from (Some (got_in l.seq (o.entering me from)))) o.entering) n m) (o.issued n m) (put_at o.taken me from (o.taken me from + 1) n m)
    by_test n m false = put_at-all (λ j k t. Bounded (o.entering j k) (o.issued j k) t) o.taken me from _
        (bounded_more (o.entering me from) _ _ _ _ (omega arith) (omega arith) (b.records me from)) (λ j k d. b.records j k) n m
    by_test n m true = put_at-both (λ j k r t. Bounded r (o.issued j k) t) o.entering o.taken me from _ _
        (rw first (bounded_got (o.entering me from) (o.issued me from) (o.taken me from) (b.records me from))) (λ j k d. b.records j k) n m
