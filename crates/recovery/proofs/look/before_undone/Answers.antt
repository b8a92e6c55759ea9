-- `recovery::look::before_undone` meets its contract. Assumes nothing.
use Rattle.recovery.proofs.look.before_undone.Goals as goal

pub returns-in-Undo : goal.returns-in-Undo
returns-in-Undo c = let r = c.before_highest.ensures in (λ visits. rw c.in-Undo.is (r.0 visits), r.1)
