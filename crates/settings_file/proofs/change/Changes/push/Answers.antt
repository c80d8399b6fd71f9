use Rattle.std.proofs.Common.{◌≡◌, take, length, ◌<◌, arith}
use Rattle.settings_file.specs.ChangesBack.{count_back}
use Rattle.settings_file.proofs.Changes.{AreChanges-more, AreStored-more}
use Rattle.settings_file.proofs.change.Changes.push.Goals as goal

pub invariant_of-self : goal.invariant_of-self
invariant_of-self c =
    let count = c.self.inside.count in
    let all = c.self.inside.all in
    let x = c.args.change.now in
    let is : take count all ≡ c.args.self.now = c.self.view_is in
    let room : length (take count all) < 16 = rw is c.requires.room in
    let later = rw (← is) at c.requires.later in
    let below : count < 16 = omega (arith, count_back count all c.self.invariant) in
    AreStored-more count all x c.self.invariant below (AreChanges-more (take count all) x c.self.invariant.valid room c.requires.change later)

pub returns-clause-valid : goal.returns-clause-valid
returns-clause-valid c = (invariant_of-self c).valid
