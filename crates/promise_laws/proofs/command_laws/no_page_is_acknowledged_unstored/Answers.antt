use Rattle.promise_laws.proofs.command_laws.no_page_is_acknowledged_unstored.Goals as goal

pub returns : goal.returns
returns c = λ start rows end old new report serves broken.
    let marked = serves.acknowledged broken.earlier broken.attempt broken.later broken.place broken.pages broken.tried broken.acknowledged in
    broken.unmarked marked.noted marked.noted_first marked.rows
