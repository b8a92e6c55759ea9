-- The book's call that a request means.
use Rattle.book.specs.Calls.{Call}
use Rattle.state.specs.declared.requests.Request.{Request}
use Rattle.state.specs.declared.requests.Request.TheVariants.{Begin, Change, HandOver, Commit, Abort, Force, Flush, Read, HandOverAll}

abbrev pub call_of : Request → Call
call_of Begin = Call.begin
call_of (Change v c a) = Call.change v.0 c.0 a
call_of (HandOver g r c) = Call.hand_over g.0 r.0 c.0
call_of (Commit v) = Call.commit v.0
call_of (Abort v) = Call.abort v.0
call_of Force = Call.force
call_of (Flush p) = Call.flush p
call_of (Read c) = Call.read c.0
call_of (HandOverAll g r) = Call.hand_over_all g.0 r.0
