use Rattle.dia_check.proofs.tasks.work_of.Goals as goal

pub returns-clause-work : goal.returns-clause-work
returns-clause-work c = record {
  lets = c.in_ok-lets.ensures.lets.lets;
  order = c.in_ok-lets.ensures.lets.order;
  nexts = rw (c.items-3.ensures.value, c.items-4.ensures.value, c.in_ok-names.ensures, c.in_ok-states.ensures, c.items-parts.ensures.value) at c.in_ok-nexts.ensures;
  outs = rw (c.items.ensures.value, c.in_ok-names.ensures, c.items-parts.ensures.value) at c.in_ok-outs.ensures;
}
