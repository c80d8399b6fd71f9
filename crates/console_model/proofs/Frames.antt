-- How long frames are at least.
use Rattle.std.proofs.Common.{◌<◌, arith}
use Rattle.console_model.specs.declared.frame.FrameKind.{FrameKind}
use Rattle.console_model.specs.declared.frame.FrameKind.TheVariants.{ForDump, ForBytes, ForTime}
use Rattle.console_model.specs.FrameSize.{frame_size}

pub some_byte : (kind : FrameKind) → 0 < frame_size kind
some_byte ForDump = omega arith
some_byte (ForBytes at count) = omega arith
some_byte ForTime = omega arith
