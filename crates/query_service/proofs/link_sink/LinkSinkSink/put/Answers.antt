use Rattle.std.proofs.Common.{refl}
use Rattle.query_service.proofs.Piece.{all_said, fails, finds_no_memory, stays_refused}
use Rattle.query_service.proofs.link_sink.LinkSinkSink.put.Goals as goal

pub returns-in-Some : goal.returns-in-Some
returns-in-Some g c = stays_refused g.L.Link.traffic c.args.self.now c.args.bytes.now c.in-Some.field-0 c.in-Some.is

pub returns-in-Done : goal.returns-in-Done
returns-in-Done g c = all_said g.L.Link.traffic c.args.self.now _ c.args.bytes.now refl c.in_default.is c.in-Done.ensures refl

pub returns-in-Failed : goal.returns-in-Failed
returns-in-Failed g c = fails g.L.Link.traffic c.args.self.now _ c.args.bytes.now refl c.in_default.is c.in-Failed.ensures refl

pub returns-in-OutOfMemory : goal.returns-in-OutOfMemory
returns-in-OutOfMemory g c =
    finds_no_memory g.L.Link.traffic c.args.self.now _ c.args.bytes.now refl c.in_default.is c.in-OutOfMemory.ensures refl
