-- The style that the code has.
use Rattle.commands.specs.declared.style.Style.{Style}
use Rattle.commands.specs.declared.style.Style.TheVariants as style
use Rattle.commands.specs.Style.{RowStyle, short, corrected}

abbrev pub style_of : Style → RowStyle
style_of style.Short = short
style_of (style.Corrected settings) = corrected settings.now
