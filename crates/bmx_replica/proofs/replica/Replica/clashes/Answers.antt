use Rattle.std.proofs.Common.{◌≤◌, List, subst, sym}
use Rattle.std.specs.Prelude.{All}
use Rattle.bmx_types.specs.declared.addresses.Info.{Info}
use Rattle.bmx_msg.specs.declared.letters.Msg.{Msg}
use Rattle.bmx_msg.specs.declared.letters.Field.{Field}
use Rattle.bmx_replica.specs.Letters.{infos_in, infos_told}
use Rattle.bmx_replica.proofs.replica.Replica.clashes.Goals as goal

pub accepts_all-requires : goal.accepts_all-requires
accepts_all-requires c =
    let P : Msg → Type 0 = λ m. All (λ (i : Info). i.size ≤ 32) (infos_in m) in
    let Q : List Field → Type 0 = λ l. All (λ (i : Info). i.size ≤ 32) (infos_told c.in-ReadGrant.info l) in
    subst Q (sym c.as_slice.ensures) (subst P c.in-ReadGrant.is c.requires)

pub accepts_all-requires-in-WriteGrant : goal.accepts_all-requires-in-WriteGrant
accepts_all-requires-in-WriteGrant c =
    let P : Msg → Type 0 = λ m. All (λ (i : Info). i.size ≤ 32) (infos_in m) in
    let Q : List Field → Type 0 = λ l. All (λ (i : Info). i.size ≤ 32) (infos_told c.in-WriteGrant.info l) in
    subst Q (sym c.as_slice-in-WriteGrant.ensures) (subst P c.in-WriteGrant.is c.requires)
