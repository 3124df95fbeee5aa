use Rattle.std.proofs.Common.{◌≡◌, ◌≤◌, length, take, vec_capacity, vec_len}
use Rattle.std.specs.Prelude.{zip}
use Rattle.dbp_core.specs.Cores.{count_in, plan_in, state_in}
use Rattle.dbp_replay.proofs.Taken.{TakenTo}
use Rattle.dbp_replay.proofs.walk.walk.Given as goal

abbrev pub invariant-loop-place : goal.invariant-loop-place
invariant-loop-place l = record {
  plan : plan_in l.core ≡ plan_in l.initial.core;
  count : count_in l.core ≡ count_in l.initial.core;
  so_far : TakenTo (plan_in l.initial.core) (count_in l.initial.core) l.fn.steps l.place (state_in l.core) (zip (take l.place l.fn.steps) l.all_heard.items);
  size : length l.all_heard.items ≡ l.place;
  filled : vec_len l.all_heard ≡ l.place;
  room : length l.fn.steps ≤ vec_capacity l.all_heard;
}
