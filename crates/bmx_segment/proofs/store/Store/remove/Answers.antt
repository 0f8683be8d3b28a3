use Rattle.std.proofs.Common.{◌≡◌, ◌≢◌, ℕ, ◌+◌, ◌-◌, ◌<◌, List, length, get_or, set, None, sym, ap, subst, ◌∙◌, arith}
use Rattle.std.specs.Prelude.{slice_index}
use Rattle.std.proofs.lemmas.List.{length-set, get_or_read, get_or-set_same, get_or-set_other}
use Rattle.bmx_types.specs.Updates.{Puts}
use Rattle.bmx_segment.specs.Blocks.{Block, blank_block}
use Rattle.bmx_segment.specs.Stores.{block_at, segment_key, IsAt, TakesOut}
use Rattle.bmx_segment.specs.Inside.Stores.{Mapped, IsStored, rank_of, rank_in}
use Rattle.bmx_segment.proofs.Stored.{distinct, in_table, same_rank, IsStored-removed, Puts-taken, Puts-nothing}
use Rattle.bmx_segment.proofs.store.Store.remove.Goals as goal

pub index_mut-requires : goal.index_mut-requires
index_mut-requires c =
    let xs : List Block = c.self.inside.segments.items in
    let table : List ℕ = c.self.inside.table.items in
    let n : ℕ = length xs in
    let counted = c.self.inside.segments.ok.0 in
    let same : xs ≡ c.args.self.now.blocks = ap (λ (s : Mapped). s.blocks) c.self.view_is in
    let place : ℕ = c.in-Some.place in
    let At : List Block → Type 0 = λ bs. IsAt bs (segment_key c.args.home c.args.number) place in
    let at : At xs = subst At (sym same) c.in-Some.ensures.some in
    let within = at.within in
    let last : Block = c.index-last.result.now in
    let last_there : last ≡ get_or xs (n - 1) last = c.index-last.ensures ∙ ap (λ (m : ℕ). get_or xs (m - 1) last) (c.len.ensures ∙ counted) in
    let moved_is : c.rank-moved.result ≡ rank_in last = c.rank-moved.ensures.value ∙ (λ i. rank_of (c.home.ensures i) (c.number.ensures.value i)) in
    let last_is : (d : Block) → rank_in (get_or xs (n - 1) d) ≡ c.rank-moved.result = λ d. sym (moved_is ∙ ap rank_in (get_or_read xs (n - 1) last (omega arith) last_there d)) in
    let d : Block = blank_block 0 0 in
    let moved_in : c.rank-moved.result < length table = in_table table c.rank-moved.result (n - 1) (ap (slice_index table) (sym (last_is d)) ∙ c.self.invariant.lists.listed (n - 1) d (omega arith)) in
    let k = c.self.inside.table.ok.0 in
    omega arith

pub index_mut-requires-2 : goal.index_mut-requires-2
index_mut-requires-2 c =
    let xs : List Block = c.self.inside.segments.items in
    let table : List ℕ = c.self.inside.table.items in
    let n : ℕ = length xs in
    let counted = c.self.inside.segments.ok.0 in
    let same : xs ≡ c.args.self.now.blocks = ap (λ (s : Mapped). s.blocks) c.self.view_is in
    let place : ℕ = c.in-Some.place in
    let At : List Block → Type 0 = λ bs. IsAt bs (segment_key c.args.home c.args.number) place in
    let at : At xs = subst At (sym same) c.in-Some.ensures.some in
    let within = at.within in
    let last : Block = c.index-last.result.now in
    let last_there : last ≡ get_or xs (n - 1) last = c.index-last.ensures ∙ ap (λ (m : ℕ). get_or xs (m - 1) last) (c.len.ensures ∙ counted) in
    let moved_is : c.rank-moved.result ≡ rank_in last = c.rank-moved.ensures.value ∙ (λ i. rank_of (c.home.ensures i) (c.number.ensures.value i)) in
    let last_is : (d : Block) → rank_in (get_or xs (n - 1) d) ≡ c.rank-moved.result = λ d. sym (moved_is ∙ ap rank_in (get_or_read xs (n - 1) last (omega arith) last_there d)) in
    let d : Block = blank_block 0 0 in
    let moved_in : c.rank-moved.result < length table = in_table table c.rank-moved.result (n - 1) (ap (slice_index table) (sym (last_is d)) ∙ c.self.invariant.lists.listed (n - 1) d (omega arith)) in
    let rank_there : (d : Block) → rank_in (get_or xs place d) ≡ c.rank.result = λ d.
    let few = (c.self.invariant.blocks place d within).few_numbers in
    same_rank (get_or xs place d).home (get_or xs place d).number c.args.home c.args.number (omega arith) c.ranges.number.fits (at.keyed d) ∙ sym c.rank.ensures.value in
    let rank_inside : c.rank.result < length table = in_table table c.rank.result place (ap (slice_index table) (sym (rank_there d)) ∙ c.self.invariant.lists.listed place d within) in
    let k = c.self.inside.table.ok.0 in
    omega arith

pub invariant_of-self : goal.invariant_of-self
invariant_of-self c =
    let xs : List Block = c.self.inside.segments.items in
    let ys : List Block = c.swap_remove.new.self.items in
    let table : List ℕ = c.self.inside.table.items in
    let n : ℕ = length xs in
    let counted = c.self.inside.segments.ok.0 in
    let same : xs ≡ c.args.self.now.blocks = ap (λ (s : Mapped). s.blocks) c.self.view_is in
    let place : ℕ = c.in-Some.place in
    let At : List Block → Type 0 = λ bs. IsAt bs (segment_key c.args.home c.args.number) place in
    let at : At xs = subst At (sym same) c.in-Some.ensures.some in
    let within = at.within in
    let last : Block = c.index-last.result.now in
    let last_there : last ≡ get_or xs (n - 1) last = c.index-last.ensures ∙ ap (λ (m : ℕ). get_or xs (m - 1) last) (c.len.ensures ∙ counted) in
    let moved_is : c.rank-moved.result ≡ rank_in last = c.rank-moved.ensures.value ∙ (λ i. rank_of (c.home.ensures i) (c.number.ensures.value i)) in
    let last_is : (d : Block) → rank_in (get_or xs (n - 1) d) ≡ c.rank-moved.result = λ d. sym (moved_is ∙ ap rank_in (get_or_read xs (n - 1) last (omega arith) last_there d)) in
    let d : Block = blank_block 0 0 in
    let moved_in : c.rank-moved.result < length table = in_table table c.rank-moved.result (n - 1) (ap (slice_index table) (sym (last_is d)) ∙ c.self.invariant.lists.listed (n - 1) d (omega arith)) in
    let rank_there : (d : Block) → rank_in (get_or xs place d) ≡ c.rank.result = λ d.
    let few = (c.self.invariant.blocks place d within).few_numbers in
    same_rank (get_or xs place d).home (get_or xs place d).number c.args.home c.args.number (omega arith) c.ranges.number.fits (at.keyed d) ∙ sym c.rank.ensures.value in
    let rank_inside : c.rank.result < length table = in_table table c.rank.result place (ap (slice_index table) (sym (rank_there d)) ∙ c.self.invariant.lists.listed place d within) in
    let first : List ℕ = set table c.rank-moved.result (place + 1) in
    let next : List ℕ = set first c.rank.result 0 in
    let fewer : length ys + 1 ≡ n = let l = c.swap_remove.ensures.len in let k = c.swap_remove.new.self.ok.0 in omega arith in
    let here : (d : Block) → place + 1 < n → get_or ys place d ≡ get_or xs (n - 1) d = λ d lt. c.swap_remove.ensures.by_index.0 d (omega arith) ∙ ap (λ (m : ℕ). get_or xs (m - 1) d) counted in
    let stay : (k : ℕ) (d : Block) → k ≢ place → k + 1 < n → get_or ys k d ≡ get_or xs k d = λ k d ne lt. c.swap_remove.ensures.by_index.1 k d ne (omega arith) in
    let long = length-set table c.rank-moved.result (place + 1) in
    let gone : (d : Block) → slice_index next (rank_in (get_or xs place d)) ≡ 0 = λ d. ap (slice_index next) (rank_there d) ∙ get_or-set_same first c.rank.result 0 0 (omega arith) in
    let moves : (d : Block) → c.rank-moved.result ≢ rank_in (get_or xs place d) → slice_index next c.rank-moved.result ≡ place + 1 = λ d off.
    get_or-set_other first c.rank.result c.rank-moved.result 0 0 (λ e. off (e ∙ sym (rank_there d))) ∙ get_or-set_same table c.rank-moved.result (place + 1) 0 moved_in in
    let others : (k : ℕ) (d : Block) → k ≢ c.rank-moved.result → k ≢ rank_in (get_or xs place d) → slice_index next k ≡ slice_index table k = λ k d off away.
    get_or-set_other first c.rank.result k 0 0 (λ e. away (e ∙ sym (rank_there d))) ∙ get_or-set_other table c.rank-moved.result k (place + 1) 0 off in
    let kept : IsStored ys c.self.inside.pool.items next c.self.inside.segments.cap c.self.inside.table.cap = IsStored-removed xs ys c.self.inside.pool.items table next c.self.inside.segments.cap c.self.inside.table.cap place c.rank-moved.result c.self.invariant within fewer last_is here stay gone moves others c.self.inside.table.cap (omega arith) in
    rw c.swap_remove.ensures.capacity kept

pub returns-clause-blocks : goal.returns-clause-blocks
returns-clause-blocks c =
    let xs : List Block = c.self.inside.segments.items in
    let ys : List Block = c.swap_remove.new.self.items in
    let table : List ℕ = c.self.inside.table.items in
    let n : ℕ = length xs in
    let counted = c.self.inside.segments.ok.0 in
    let same : xs ≡ c.args.self.now.blocks = ap (λ (s : Mapped). s.blocks) c.self.view_is in
    let place : ℕ = c.in-Some.place in
    let At : List Block → Type 0 = λ bs. IsAt bs (segment_key c.args.home c.args.number) place in
    let at : At xs = subst At (sym same) c.in-Some.ensures.some in
    let within = at.within in
    let last : Block = c.index-last.result.now in
    let last_there : last ≡ get_or xs (n - 1) last = c.index-last.ensures ∙ ap (λ (m : ℕ). get_or xs (m - 1) last) (c.len.ensures ∙ counted) in
    let moved_is : c.rank-moved.result ≡ rank_in last = c.rank-moved.ensures.value ∙ (λ i. rank_of (c.home.ensures i) (c.number.ensures.value i)) in
    let last_is : (d : Block) → rank_in (get_or xs (n - 1) d) ≡ c.rank-moved.result = λ d. sym (moved_is ∙ ap rank_in (get_or_read xs (n - 1) last (omega arith) last_there d)) in
    let d : Block = blank_block 0 0 in
    let moved_in : c.rank-moved.result < length table = in_table table c.rank-moved.result (n - 1) (ap (slice_index table) (sym (last_is d)) ∙ c.self.invariant.lists.listed (n - 1) d (omega arith)) in
    let rank_there : (d : Block) → rank_in (get_or xs place d) ≡ c.rank.result = λ d.
    let few = (c.self.invariant.blocks place d within).few_numbers in
    same_rank (get_or xs place d).home (get_or xs place d).number c.args.home c.args.number (omega arith) c.ranges.number.fits (at.keyed d) ∙ sym c.rank.ensures.value in
    let rank_inside : c.rank.result < length table = in_table table c.rank.result place (ap (slice_index table) (sym (rank_there d)) ∙ c.self.invariant.lists.listed place d within) in
    let first : List ℕ = set table c.rank-moved.result (place + 1) in
    let next : List ℕ = set first c.rank.result 0 in
    let fewer : length ys + 1 ≡ n = let l = c.swap_remove.ensures.len in let k = c.swap_remove.new.self.ok.0 in omega arith in
    let here : (d : Block) → place + 1 < n → get_or ys place d ≡ get_or xs (n - 1) d = λ d lt. c.swap_remove.ensures.by_index.0 d (omega arith) ∙ ap (λ (m : ℕ). get_or xs (m - 1) d) counted in
    let stay : (k : ℕ) (d : Block) → k ≢ place → k + 1 < n → get_or ys k d ≡ get_or xs k d = λ k d ne lt. c.swap_remove.ensures.by_index.1 k d ne (omega arith) in
    let long = length-set table c.rank-moved.result (place + 1) in
    let gone : (d : Block) → slice_index next (rank_in (get_or xs place d)) ≡ 0 = λ d. ap (slice_index next) (rank_there d) ∙ get_or-set_same first c.rank.result 0 0 (omega arith) in
    let moves : (d : Block) → c.rank-moved.result ≢ rank_in (get_or xs place d) → slice_index next c.rank-moved.result ≡ place + 1 = λ d off.
    get_or-set_other first c.rank.result c.rank-moved.result 0 0 (λ e. off (e ∙ sym (rank_there d))) ∙ get_or-set_same table c.rank-moved.result (place + 1) 0 moved_in in
    let others : (k : ℕ) (d : Block) → k ≢ c.rank-moved.result → k ≢ rank_in (get_or xs place d) → slice_index next k ≡ slice_index table k = λ k d off away.
    get_or-set_other first c.rank.result k 0 0 (λ e. away (e ∙ sym (rank_there d))) ∙ get_or-set_other table c.rank-moved.result k (place + 1) 0 off in
    let key : ℕ = segment_key c.args.home c.args.number in
    let P : List Block → Type 0 = λ bs. Puts (block_at bs) (block_at ys) key None in
    subst P same (Puts-taken xs ys c.self.inside.pool.items table next c.self.inside.segments.cap c.self.inside.table.cap place c.rank-moved.result c.self.invariant within fewer last_is here stay gone moves others d key (at.keyed d))

pub returns-clause-listed : goal.returns-clause-listed
returns-clause-listed c =
    let xs : List Block = c.self.inside.segments.items in
    let ys : List Block = c.swap_remove.new.self.items in
    let table : List ℕ = c.self.inside.table.items in
    let n : ℕ = length xs in
    let counted = c.self.inside.segments.ok.0 in
    let same : xs ≡ c.args.self.now.blocks = ap (λ (s : Mapped). s.blocks) c.self.view_is in
    let place : ℕ = c.in-Some.place in
    let At : List Block → Type 0 = λ bs. IsAt bs (segment_key c.args.home c.args.number) place in
    let at : At xs = subst At (sym same) c.in-Some.ensures.some in
    let within = at.within in
    let fewer : length ys + 1 ≡ n = let l = c.swap_remove.ensures.len in let k = c.swap_remove.new.self.ok.0 in omega arith in
    let here : (d : Block) → place + 1 < n → get_or ys place d ≡ get_or xs (n - 1) d = λ d lt. c.swap_remove.ensures.by_index.0 d (omega arith) ∙ ap (λ (m : ℕ). get_or xs (m - 1) d) counted in
    let stay : (k : ℕ) (d : Block) → k ≢ place → k + 1 < n → get_or ys k d ≡ get_or xs k d = λ k d ne lt. c.swap_remove.ensures.by_index.1 k d ne (omega arith) in
    let taken : TakesOut xs ys place = record { fewer = fewer; here = here; others = stay } in
    λ i there.
    let found : IsAt xs (segment_key c.args.home c.args.number) i = subst (λ (bs : List Block). IsAt bs (segment_key c.args.home c.args.number) i) (sym same) there in
    let d : Block = blank_block 0 0 in
    let is : i ≡ place = distinct xs table c.self.invariant.blocks c.self.invariant.lists i place d found.within within (found.keyed d ∙ sym (at.keyed d)) in
    subst (λ (bs : List Block). TakesOut bs ys i) same (subst (λ (k : ℕ). TakesOut xs ys k) (sym is) taken)

pub returns-in_default-clause-blocks : goal.returns-in_default-clause-blocks
returns-in_default-clause-blocks c = Puts-nothing c.args.self.now.blocks (segment_key c.args.home c.args.number) c.in_default.ensures.none

pub returns-in_default-clause-listed : goal.returns-in_default-clause-listed
returns-in_default-clause-listed c = λ i there. absurd (let e = sym c.in_default.ensures.none ∙ there.found (blank_block 0 0) in cc)
