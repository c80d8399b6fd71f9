use Rattle.line_laws.proofs.Places.{asking}
use Rattle.line_laws.proofs.Pages.{asked_again}
use Rattle.line_laws.proofs.laws.position.Goals as goal

pub returns : goal.returns
returns c h p k j f mild t quiet w v b ready few e =
    let a = asking h p k j f mild t quiet w v b ready few e in
    record { calm = a.calm; near = a.near; taken = a.page; again = λ s u still x. (asked_again h p f mild k j s w v u t a still x).0 }
