use Rattle.std.proofs.Common.{◌≡◌, ℕ, List, [], ◌∷◌, ◌++◌, set, sym, ap, ◌∙◌, subst, arith}
use Rattle.std.specs.Str.{bytes_eq}
use Rattle.std.proofs.lemmas.Iterator.Adapters.{position_from-zero}
use Rattle.bmx_outside.specs.declared.mem_shelves.StoredFile.{StoredFile}
use Rattle.bmx_outside.specs.Shelves.{Stores, file_of}
use Rattle.bmx_outside.proofs.Shelving.{IsFile, found_from, none_from, stored_at, stored_last}
use Rattle.bmx_outside.proofs.mem_shelves.NoFaultShelfShelf.save.Goals as goal

pub returns-in-Some-clause-ok : goal.returns-in-Some-clause-ok
returns-in-Some-clause-ok c =
    let files = c.args.self.now in
    let items = c.self.inside.files.items in
    let name = c.args.name.now in
    let bytes = c.args.bytes.now in
    let place = c.in-Some.place in
    let read = c.index_mut.result.now in
    let at = found_from files name 0 place (sym (position_from-zero (λ f. bytes_eq f.name name) files) ∙ sym c.in-Some.ensures) in
    let here : IsFile files name place = subst (λ (k : ℕ). IsFile files name k) (let e = at.1 in omega arith) at.2 in
    let there : IsFile items name place = subst (λ (fs : List StoredFile). IsFile fs name place) (sym c.self.view_is) here in
    let kept : StoredFile = record { name = read.name; bytes = c.from_vec-bytes.result } in
    let stored = stored_at items name bytes place kept read there (ap (λ (f : StoredFile). f.name) c.index_mut.ensures.value) (c.from_vec-bytes.ensures ∙ c.in_ok-from_slice.ensures.items) in
    subst (λ (fs : List StoredFile). Stores name bytes (file_of fs) (file_of (set items place kept))) c.self.view_is stored

pub returns-in_ok-push-in-None-clause-ok : goal.returns-in_ok-push-in-None-clause-ok
returns-in_ok-push-in-None-clause-ok c =
    let files = c.args.self.now in
    let items = c.self.inside.files.items in
    let name = c.args.name.now in
    let bytes = c.args.bytes.now in
    let none = none_from files name 0 (sym (position_from-zero (λ f. bytes_eq f.name name) files) ∙ sym c.in-None.ensures) in
    let added : StoredFile = record { name = c.in_ok-name-in-None.name; bytes = c.from_vec-bytes.result } in
    let stored = stored_last files name bytes added none c.in_ok-name-in-None.ensures (c.from_vec-bytes.ensures ∙ c.in_ok-from_slice.ensures.items) in
    let pushed : c.push.new.self.items ≡ files ++ added ∷ [] = c.in_ok-push-in-None.ensures.items ∙ ap (λ (fs : List StoredFile). fs ++ added ∷ []) c.self.view_is in
    subst (λ (fs : List StoredFile). Stores name bytes (file_of files) (file_of fs)) (sym pushed) stored
