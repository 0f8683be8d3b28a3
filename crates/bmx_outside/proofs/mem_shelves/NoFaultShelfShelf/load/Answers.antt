use Rattle.std.proofs.Common.{◌≡◌, ℕ, List, Some, get_or, sym, ap, ◌∙◌, subst, arith}
use Rattle.std.specs.Str.{bytes_eq}
use Rattle.std.proofs.lemmas.Iterator.Adapters.{position_from-zero}
use Rattle.bmx_outside.specs.declared.mem_shelves.StoredFile.{StoredFile}
use Rattle.bmx_outside.proofs.Shelving.{IsFile, found_from, none_from, found}
use Rattle.bmx_outside.proofs.mem_shelves.NoFaultShelfShelf.load.Goals as goal

pub returns-in_default-clause-found : goal.returns-in_default-clause-found
returns-in_default-clause-found c =
    let files = c.args.self.now in
    let name = c.args.name.now in
    none_from files name 0 (sym (position_from-zero (λ f. bytes_eq f.name name) files) ∙ sym c.in_default.ensures)

pub returns-clause-found : goal.returns-clause-found
returns-clause-found c =
    let files = c.args.self.now in
    let name = c.args.name.now in
    let read = c.index.result.now in
    let at = found_from files name 0 c.in-Some.place (sym (position_from-zero (λ f. bytes_eq f.name name) files) ∙ sym c.in-Some.ensures) in
    let place : IsFile files name c.in-Some.place = subst (λ (k : ℕ). IsFile files name k) (let e = at.1 in omega arith) at.2 in
    let there = found files name c.in-Some.place read place in
    let same : get_or files c.in-Some.place read ≡ read = ap (λ (fs : List StoredFile). get_or fs c.in-Some.place read) (sym c.self.view_is) ∙ sym c.index.ensures in
    there.1 ∙ ap Some (ap (λ (f : StoredFile). f.bytes) same ∙ sym c.in_ok-bytes.ensures)
