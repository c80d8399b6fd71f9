use Rattle.batch_adding.proofs.opening.open_to.Goals as goal

pub returns-in-Book-clause-finds : goal.returns-in-Book-clause-finds
returns-in-Book-clause-finds g c x told =
    let found = c.in-Book.ensures.finds x told in (found.0, record { holds_them = found.1; current = found.3 })
