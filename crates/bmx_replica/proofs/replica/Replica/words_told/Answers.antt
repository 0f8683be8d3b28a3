use Rattle.std.proofs.Common.{◌≡◌, ℕ, List, get_or, set, sym, ap, subst, ◌∙◌, inl, inr, arith}
use Rattle.std.specs.Prelude.{slice_index}
use Rattle.std.proofs.lemmas.Bool.{cases_eq}
use Rattle.std.proofs.lemmas.List.{get_or-set_same, get_or-set_other, length-set}
use Rattle.bmx_types.specs.declared.values.Val.{Val}
use Rattle.bmx_msg.specs.declared.letters.Field.{Field}
use Rattle.bmx_segment.specs.Headers.{kind_number}
use Rattle.bmx_replica.specs.Replicas.{Holding, HasTarget, IsField, value_in, word_in}
use Rattle.bmx_replica.specs.Letters.{value_told, values_told}
use Rattle.bmx_replica.specs.Inside.Replicas.{IsHeld}
use Rattle.bmx_replica.specs.declared.words.Word.{Word}
use Rattle.bmx_replica.proofs.Installing.{All-mapped, kinds_more, kinds_fit, get_lt, get_mapped, length-mapped}
use Rattle.bmx_replica.proofs.replica.Replica.words_told.Goals as goal

held_by : (r : Holding) (v : Val) (w : Word) → w ≡ word_in r v → IsField r.heap.blocks (kind_number w.kind) w.word → value_in r.heap.blocks (kind_number w.kind) w.word ≡ v → IsHeld r v w.word
held_by r v w word field holds =
    let kind : kind_number w.kind ≡ kind_number (word_in r v).kind = ap (λ (x : Word). kind_number x.kind) word in
    record {
      word = ap (λ (x : Word). x.word) word;
      field = subst (λ (k : ℕ). IsField r.heap.blocks k w.word) kind field;
      value = ap (λ k. value_in r.heap.blocks k w.word) (sym kind) ∙ holds;
    }

pub word_told-kind-requires : goal.word_told-kind-requires
word_told-kind-requires c =
    let r : Holding = c.args.self.now in
    let P : Val → Type 0 = λ v. HasTarget r v in
    (All-mapped P value_told c.args.fields.now c.loop-i.i c.index-fields-i.result c.loop-i-test.true c.index-fields-i.is c.requires.targets)

pub overflow_add-kinds : goal.overflow_add-kinds
overflow_add-kinds c =
    let r : Holding = c.args.self.now in
    let word : c.word_told-kind.result ≡ word_in r (value_told c.index-fields-i.result) = c.word_told-kind.ensures.word in
    let sum = kinds_more r c.args.fields.now c.loop-i.i c.index-fields-i.result c.loop-i.kinds c.kind_bits-kinds.result c.word_told-kind.result c.loop-i-test.true c.index-fields-i.is c.loop-i.invariant.kinds word c.kind_bits-kinds.ensures in
    let fit = kinds_fit r c.args.fields.now c.loop-i.i c.loop-i-test.true c.requires.few in
    omega arith

pub loop-i-preserved : goal.loop-i-preserved
loop-i-preserved c =
    let r : Holding = c.args.self.now in
    let fields : List Field = c.args.fields.now in
    let i : ℕ = c.loop-i.i in
    let f : Field = c.index-fields-i.result in
    let w : Word = c.word_told-kind.result in
    let word : w ≡ word_in r (value_told f) = c.word_told-kind.ensures.word in
    record {
      all = length-set c.loop-i.words i w.word ∙ c.loop-i.invariant.all;
      kinds = kinds_more r fields i f c.loop-i.kinds c.kind_bits-kinds.result w c.loop-i-test.true c.index-fields-i.is c.loop-i.invariant.kinds word c.kind_bits-kinds.ensures;
      held = λ j v lt e.
          elim (cases_eq j i) [
            | inl at ↦
                let is : value_told f ≡ v = get_mapped value_told fields j f v (omega arith) (c.index-fields-i.is ∙ ap (λ n. get_or fields n f) (sym at)) e in
                let one : IsHeld r (value_told f) w.word = held_by r (value_told f) w word c.word_told-kind.ensures.field c.word_told-kind.ensures.holds in
                let same : slice_index (set c.loop-i.words i w.word) j ≡ w.word = ap (slice_index (set c.loop-i.words i w.word)) at ∙ get_or-set_same c.loop-i.words i w.word 0 (omega (arith, c.loop-i.invariant.all)) in
                subst (λ (n : ℕ). IsHeld r v n) (sym same) (subst (λ u. IsHeld r u w.word) is one)
            | inr off ↦ subst (λ (n : ℕ). IsHeld r v n) (sym (get_or-set_other c.loop-i.words i j w.word 0 off)) (c.loop-i.invariant.held j v (omega arith) e)
          ];
    }

pub returns-clause-words : goal.returns-clause-words
returns-clause-words c = λ i v e.
    let lt = get_lt (values_told c.args.fields.now) i v e in
    let many = length-mapped value_told c.args.fields.now in
    c.loop-i.invariant.held i v (omega arith) e
