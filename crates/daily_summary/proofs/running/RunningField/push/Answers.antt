use Rattle.std.proofs.Common.{◌≡◌, ◌∙◌, ap, pos}
use Rattle.std.specs.Prelude.{int_lt, if◌then◌else◌}
use Rattle.std.proofs.lemmas.Int.{to_z-of_z}
use Rattle.daily_summary.proofs.RunningSums.{value_more, within_words}
use Rattle.daily_summary.proofs.SumBounds.{same_32}
use Rattle.daily_summary.proofs.running.RunningField.push.Goals as goal

pub overflow_mul-self : goal.overflow_mul-self
overflow_mul-self c =
    let z = c.args.value in
    let fits = within_words c.args.row.now z c.args.self.now c.requires.printable c.requires.period c.requires.room in
    let value = fits.value in let weight = fits.seconds in let product = fits.product in
    rw (same_32 c.from-2.result z fits.narrow c.from-2.ensures, c.from-3.ensures ∙ ap pos c.requires.seconds) (simp to_z-of_z product)

pub overflow_add-self-2 : goal.overflow_add-self-2
overflow_add-self-2 c =
    let z = c.args.value in
    let fits = within_words c.args.row.now z c.args.self.now c.requires.printable c.requires.period c.requires.room in
    let value = fits.value in let weight = fits.seconds in let product = fits.product in
    let wsum = fits.wsum in let wsum_more = fits.wsum_more in
    rw (same_32 c.from-2.result z fits.narrow c.from-2.ensures, c.from-3.ensures ∙ ap pos c.requires.seconds) (simp to_z-of_z wsum_more)

pub returns : goal.returns
returns c =
    let a = c.args.self.now in let z = c.args.value in let row = c.args.row.now in
    let fits = within_words row z a c.requires.printable c.requires.period c.requires.room in
    let narrow = fits.narrow in let value = fits.value in let weight = fits.seconds in let product = fits.product in
    let low = c.keep_least.ensures in let high = c.keep_greatest.ensures in
    let least : c.keep_least.new.least ≡ (if int_lt z a.least then z else a.least) = simp to_z-of_z at low.value in
    let least_at : c.keep_least.new.least_at ≡ (if int_lt z a.least then row.stamp else a.least_at) = simp to_z-of_z at low.stamp in
    let greatest : c.keep_greatest.new.greatest ≡ (if int_lt a.greatest z then z else a.greatest) = simp to_z-of_z at high.value in
    let greatest_at : c.keep_greatest.new.greatest_at ≡ (if int_lt a.greatest z then row.stamp else a.greatest_at) = simp to_z-of_z at high.stamp in
    let first = same_32 c.from.result z narrow c.from.ensures in
    let second = same_32 c.from-2.result z narrow c.from-2.ensures in
    let seconds = c.from-3.ensures ∙ ap pos c.requires.seconds in
    let sum = fits.sum in let sum_more = fits.sum_more in let wsum = fits.wsum in let wsum_more = fits.wsum_more in
    rw (least, least_at, greatest, greatest_at, first, second, seconds, c.requires.seconds) (simp to_z-of_z (value_more row z a c.requires.printable c.requires.period))
