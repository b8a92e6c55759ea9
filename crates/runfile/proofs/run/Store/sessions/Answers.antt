-- What `sessions` leaves: the entries lie in the file, the session's body too and its lines in the output.
use Prim.Native.Nat.{◌+◌, ◌*◌, ◌≤◌}
use mathlib.Core.Path.{refl, ◌∙◌}
use native.Mathlib.Omega.{arith}
use lib.ListN.{length}
use Rattle.run_lines.specs.Output.{line_length, line_limit}
use Rattle.run_reader.proofs.RunFiles.{run-file, entry-within}
use Rattle.runfile.proofs.Sessions.{sessions-none, session-ends, session-fits, sessions-more, sessions-all}
use Rattle.runfile.proofs.run.Store.sessions.Goals as goal

pub bounds-file-0 : goal.bounds-file-0
bounds-file-0 c = let f = run-file _ c.requires.0 in omega arith

pub loop-i-init : goal.loop-i-init
loop-i-init c = (rw c.from-s.ensures (sessions-none _ c.requires.0 _ _ _), refl, refl)

-- ── A turn ────────────────────────────────────────────────────────────────────────────────────────────────────────────

pub calls_at-n-requires : goal.calls_at-n-requires
calls_at-n-requires c = entry-within _ (run-file _ c.requires.0) _ (omega (arith, c.loop-i-test.true, c.from-s.ensures))

pub fuse_at-requires : goal.fuse_at-requires
fuse_at-requires c = entry-within _ (run-file _ c.requires.0) _ (omega (arith, c.loop-i-test.true, c.from-s.ensures))

-- the body lies in the file, and its lines in the output
pub session-requires : goal.session-requires
session-requires c =
    let l = c.loop-i in
    let room : c.args.out.now.at + line_length * line_limit ≤ length c.args.out.now.bytes.now = omega (arith, c.requires.1) in
    let f = run-file _ c.requires.0 in
    let n = c.calls_at-n.ensures in
    let ends = session-ends _ _ _ _ _ room l.i l.place _ _ _ c.loop-i-test.true l.invariant.0 in
    let fits = session-fits _ _ _ _ _ room l.i l.place _ _ _ c.loop-i-test.true l.invariant.0 in
    (omega (arith, n, ends), omega (arith, n, f.short), omega (arith, n, fits, room, l.invariant.2), omega (arith, f.few, c.loop-i-test.true, c.from-s.ensures))

pub loop-i-preserved : goal.loop-i-preserved
loop-i-preserved c =
    let l = c.loop-i in
    let room : c.args.out.now.at + line_length * line_limit ≤ length c.args.out.now.bytes.now = omega (arith, c.requires.1) in
    let r = c.session.ensures in
    let n = c.calls_at-n.ensures in
    let played = rw (c.fuse_at.ensures, n) at r.plays in
    (rw n (sessions-more _ _ _ _ _ room l.i l.place _ _ _ c.loop-i-test.true l.invariant.0 _ _ _ played), r.same ∙ l.invariant.1, r.kept ∙ l.invariant.2)

pub returns : goal.returns
returns c =
    let l = c.loop-i in
    let room : c.args.out.now.at + line_length * line_limit ≤ length c.args.out.now.bytes.now = omega (arith, c.requires.1) in
    λ b r. record {
      written = sessions-all _ _ _ _ _ room l.i l.place _ _ _ c.loop-i-test.false l.invariant.0 b r;
      within = let k = l.invariant.0.room in omega (arith, k, room, l.invariant.2);
      same = l.invariant.1;
      kept = l.invariant.2;
    }
