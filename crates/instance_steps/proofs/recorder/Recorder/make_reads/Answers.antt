use Rattle.std.proofs.Common.{◌≡◌, ◌≢◌, ◌+◌, ◌<◌, ◌∙◌, get_or, length, refl, sym, ap, subst, arith}
use Rattle.dbp_plan.specs.declared.diagram.Read.{Read}
use Rattle.dbp_plan.specs.declared.diagram.Task.{Task}
use Rattle.dbp_plan.specs.Lookups.{no_read}
use Rattle.instance_steps.specs.Recorders.{steps_in, table_in}
use Rattle.instance_steps.specs.declared.recorder.Recorder.{Recorder}
use Rattle.instance_steps.proofs.Adding.{steps_long}
use Rattle.instance_steps.proofs.MadeReads.{HasRead, looks_at, looks_row, read_is, reads_all, reads_more, reads_none, reads_of, reads_skip}
use Rattle.instance_steps.proofs.recorder.Recorder.make_reads.Goals as goal
use Rattle.instance_steps.proofs.recorder.Recorder.make_reads.Goals.{then-items-read+in_ok-make_read, else-items-read}

pub loop-read-init : goal.loop-read-init
loop-read-init c = record {
  piece = reads_none c.args.self.now c.args.task c.args.served c.requires.task c.requires.place;
  size = omega arith;
  table = refl;
}

pub make_read-requires-clause-place : goal.make_read-requires-clause-place
make_read-requires-clause-place c =
    let a = c.args.self.now in
    let below : c.loop-read.read < length (reads_of c.args.self.now c.args.task) = omega (arith, c.loop-read-test.true, c.len-read-end.ensures, ap (λ (t : Task). length t.reads) c.declared.ensures) in
    let read : get_or (reads_of c.args.self.now c.args.task) c.loop-read.read no_read ≡ get_or c.items.result.now c.loop-read.read c.index-items-read.result =
    read_is a c.loop-read.self c.args.task c.loop-read.read c.declared-in-loop-read.result.now c.items.result.now c.index-items-read.result c.loop-read.invariant.piece.steps.plan c.declared-in-loop-read.ensures c.items.ensures.value below in
    looks_at a c.args.task c.args.served c.requires.task c.loop-read.self c.loop-read.read below c.loop-read.invariant.piece (ap (λ (r : Read). r.at) read ∙ c.if-items-read.true)

pub make_read-requires-clause-row : goal.make_read-requires-clause-row
make_read-requires-clause-row c =
    let a = c.args.self.now in
    let below : c.loop-read.read < length (reads_of c.args.self.now c.args.task) = omega (arith, c.loop-read-test.true, c.len-read-end.ensures, ap (λ (t : Task). length t.reads) c.declared.ensures) in
    let read : get_or (reads_of c.args.self.now c.args.task) c.loop-read.read no_read ≡ get_or c.items.result.now c.loop-read.read c.index-items-read.result =
    read_is a c.loop-read.self c.args.task c.loop-read.read c.declared-in-loop-read.result.now c.items.result.now c.index-items-read.result c.loop-read.invariant.piece.steps.plan c.declared-in-loop-read.ensures c.items.ensures.value below in
    looks_row a c.args.task c.args.served c.requires.task c.loop-read.self c.loop-read.read below c.loop-read.invariant.piece (ap (λ (r : Read). r.at) read ∙ c.if-items-read.true) c.requires.rows

pub loop-read-preserved : goal.loop-read-preserved
loop-read-preserved c =
    let a = c.args.self.now in
    let b = c.loop-read.self in
    let below : c.loop-read.read < length (reads_of c.args.self.now c.args.task) = omega (arith, c.loop-read-test.true, c.len-read-end.ensures, ap (λ (t : Task). length t.reads) c.declared.ensures) in
    let read : get_or (reads_of c.args.self.now c.args.task) c.loop-read.read no_read ≡ get_or c.items.result.now c.loop-read.read c.index-items-read.result =
    read_is a b c.args.task c.loop-read.read c.declared-in-loop-read.result.now c.items.result.now c.index-items-read.result c.loop-read.invariant.piece.steps.plan c.declared-in-loop-read.ensures c.items.ensures.value below in
    let so_far = c.loop-read.invariant in
    elim c.if-items-read.branch [
      | then-items-read+in_ok-make_read w ↦
          let at : (get_or (reads_of c.args.self.now c.args.task) c.loop-read.read no_read).at ≡ c.args.served = ap (λ (r : Read). r.at) read ∙ w.if-items-read.true in
          let new : HasRead c.args.self.now c.args.task c.args.served w.make_read.new.self (c.loop-read.read + 1) =
          reads_more a c.args.task c.args.served c.requires.task b c.loop-read.read below so_far.piece at w.make_read.new.self w.in_ok-make_read.ensures.piece in
          record {
            piece = subst (λ (r : Recorder). HasRead c.args.self.now c.args.task c.args.served r (c.loop-read.read + 1)) (sym w.self-is) new;
            size = omega (arith, so_far.size, steps_long _ _ _ w.in_ok-make_read.ensures.piece.steps, ap (λ (r : Recorder). length (steps_in r)) w.self-is);
            table = ap (λ (r : Recorder). table_in r) w.self-is ∙ w.in_ok-make_read.ensures.table ∙ so_far.table;
          }
      | else-items-read w ↦
          let at : (get_or (reads_of c.args.self.now c.args.task) c.loop-read.read no_read).at ≢ c.args.served = λ same. w.if-items-read.false (ap (λ (r : Read). r.at) (sym read) ∙ same) in
          let new : HasRead c.args.self.now c.args.task c.args.served c.loop-read.self (c.loop-read.read + 1) = reads_skip a c.args.task c.args.served c.requires.task b c.loop-read.read below so_far.piece at in
          record {
            piece = subst (λ (r : Recorder). HasRead c.args.self.now c.args.task c.args.served r (c.loop-read.read + 1)) (sym w.self-is) new;
            size = omega (arith, so_far.size, ap (λ (r : Recorder). length (steps_in r)) w.self-is);
            table = ap (λ (r : Recorder). table_in r) w.self-is ∙ so_far.table;
          }
    ]

pub returns-clause-piece : goal.returns-clause-piece
returns-clause-piece c =
    let all : c.loop-read.read ≡ length (reads_of c.args.self.now c.args.task) = omega (arith, c.loop-read-test.false, c.loop-read.auto.read-end, c.len-read-end.ensures, ap (λ (t : Task). length t.reads) c.declared.ensures) in
    reads_all c.args.self.now c.args.task c.args.served c.requires.task c.loop-read.self c.loop-read.read all c.loop-read.invariant.piece
