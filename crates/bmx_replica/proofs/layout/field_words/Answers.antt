use Rattle.std.proofs.Common.{◌≡◌, ℕ, ◌<◌, ◌≤◌, length, arith, below_more, get_or-set_other, get_or-set_same, length-set, ◌∙◌}
use Rattle.bmx_replica.proofs.Laid.{IsLive-from}
use Rattle.bmx_replica.proofs.layout.field_words.Goals as goal

pub loop-i-preserved : goal.loop-i-preserved
loop-i-preserved c =
    let i : ℕ = c.loop-i.i in
    let few : c.args.header.now.size ≤ 32 = c.requires.few in
    let all : length c.loop-i.words ≡ 32 = c.loop-i.invariant.all in
    let lt : i < length c.loop-i.words = omega arith in
    record {
      all = length-set c.loop-i.words i c.word.result ∙ c.loop-i.invariant.all;
      read = below_more _ _
          (λ k h. get_or-set_other c.loop-i.words i k c.word.result 0 (λ e. absurd (omega arith)) ∙ c.loop-i.invariant.read k h)
          (get_or-set_same c.loop-i.words i c.word.result 0 lt ∙ c.word.ensures);
    }

pub word-requires : goal.word-requires
word-requires c = rw c.requires.there (IsLive-from c.args.header.now.state c.requires.live, omega arith)
