use Rattle.std.proofs.Common.{rules, ◌≡◌, ◌<◌, ◌≤◌, ℕ, ◌+◌, List, length, slice_index_or, sym, subst, ap, ◌∙◌, ⊎_elim, arith}
use Rattle.std.proofs.lemmas.Bool.{cases_lt}
use Rattle.std.proofs.lemmas.List.{get_or_default}
use Rattle.dbp_plan.specs.Lookups.{no_read}
use Rattle.dbp_plan.specs.declared.diagram.Read.{Read}
use Rattle.virtual_time.specs.Events.{IsEventAfter, is_read}
use Rattle.virtual_time.proofs.event.ticks_to_event.Goals.{then-served-read+then-read-next, else-served-read, else-served-read-via-then-served-read+else-read-next, else-served-read-via-else-served-read}
use Rattle.virtual_time.proofs.event.ticks_to_event.Goals as goal

-- what holds below n and at n holds below n + 1
one-more : (P : ℕ → Type 0) (n : ℕ) → ((r : ℕ) → r < n → P r) → P n → (r : ℕ) → r < n + 1 → P r
one-more P n below at r lt = ⊎_elim (λ (lt' : r < n). below r lt') (λ (ge : n ≤ r). subst P (let e : n ≡ r = omega (arith, lt, ge) in e) at) (cases_lt r n)

pub loop-read-preserved : goal.loop-read-preserved
loop-read-preserved c =
    let items : List Read = c.items-read-items.result.now in
    let i = c.loop-read.read-index in
    let so_far = c.loop-read.invariant in
    let own : (slice_index_or items i no_read).at ≡ c.read-item.result.at =
    ap (λ (r : Read). r.at) (sym (c.read-item.is ∙ get_or_default items i c.read-item.result no_read c.loop-read-test.true)) in
    let same : items ≡ c.args.task.now.reads = c.items-read-items.ensures.value in
    let Later : ℕ → Type 0 = λ r. c.args.served < (slice_index_or items r no_read).at → c.if-served-read.next ≤ (slice_index_or items r no_read).at in
    elim c.if-served-read.branch [
      | then-served-read+then-read-next w ↦ record {
        event = is_read i (subst (λ (rs : List Read). i < length rs) same c.loop-read-test.true)
            (w.next-is ∙ sym own ∙ ap (λ (rs : List Read). (slice_index_or rs i no_read).at) same);
        after = omega (arith, w.next-is, w.if-served-read.true);
        within = omega (arith, w.next-is, w.if-read-next.true, so_far.within);
        no_sooner = one-more Later i (λ r lt after. omega (arith, w.next-is, w.if-read-next.true, so_far.no_sooner r lt after)) (λ after. omega (arith, w.next-is, own));
      }
      | else-served-read w ↦
          let earlier = λ (r : ℕ) (lt : r < i) (after : c.args.served < (slice_index_or items r no_read).at). so_far.no_sooner r lt after in
          record {
            event = subst (IsEventAfter c.args.task.now) (sym w.next-is) so_far.event;
            after = omega (arith, w.next-is, so_far.after);
            within = omega (arith, w.next-is, so_far.within);
            no_sooner = one-more Later i (λ r lt after. omega (arith, w.next-is, earlier r lt after)) (λ after. elim w.else-served-read.branch [
              | else-served-read-via-then-served-read+else-read-next v ↦ omega (arith, w.next-is, own, v.if-read-next.false)
              | else-served-read-via-else-served-read v ↦ omega (arith, own, after, v.if-served-read.false)
            ]);
          }
    ]

pub returns : goal.returns
returns c = record {
  event = subst (IsEventAfter c.args.task.now) (omega (arith, c.loop-read.invariant.after)) c.loop-read.invariant.event;
  some = search rules;
  within = search rules;
  no_sooner = search rules;
}
