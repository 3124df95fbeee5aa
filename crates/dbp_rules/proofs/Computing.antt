-- One instance of a task, as functions of the words that it is given.
use Rattle.std.proofs.Common.{◌≡◌, ℕ, ℤ, ◌<◌, List, length, take, slice_get, sym, ◌∙◌, ap, arith}
use Rattle.std.proofs.lemmas.List.{length-take-le}
use Rattle.dbp_plan.specs.declared.diagram.Task.{Task}
use Rattle.dbp_plan.specs.Closed.{IsClosedSomewhere, let_base, place_count}
use Rattle.sync_meaning.specs.Meaning.{AreStatesAfter, HasLets, outs_in}
use Rattle.sync_meaning.specs.SomeMeaningEnvs.{IsEnvFrom, env_from, env_from-is, one_env, states_after, states_after-are, one_states_after}
use Rattle.dbp_plan.specs.ListItems.{take_place}
use Rattle.dbp_rules.specs.Work.{WorkWords}
use Rattle.dbp_rules.specs.Moves.{work_words_of}

-- what an instance has computed are these functions of what it was given
pub computed_is : (task : Task) (old : List ℤ) (w : WorkWords) → IsClosedSomewhere task → length old ≡ place_count task
    → length w.now ≡ length old → ((j : ℕ) → j < let_base task → slice_get w.now j ≡ slice_get old j) → HasLets task w.now
    → AreStatesAfter task w.now (take (length task.states) w.now) w.later → w.row ≡ outs_in task w.now → w ≡ work_words_of task (take (let_base task) old)
computed_is task old w (inputs, events, links, closed) size same given lets after outs =
    let front : List ℤ = take (let_base task) old in
    let fits : length front ≡ let_base task = length-take-le (let_base task) old (omega arith) in
    let mine : IsEnvFrom task front w.now = record { size = same ∙ size; given_values = λ j below. given j below ∙ sym (take_place old (let_base task) j below); lets = lets } in
    let env : w.now ≡ env_from task front = one_env task front w.now (env_from task front) closed.order mine (env_from-is task front closed.order fits) in
    let states : length (take (length task.states) w.now) ≡ length task.states = length-take-le (length task.states) w.now (omega arith) in
    let later : w.later ≡ states_after task w.now (take (length task.states) w.now) =
    one_states_after task w.now (take (length task.states) w.now) w.later (states_after task w.now (take (length task.states) w.now)) after
    (states_after-are task w.now (take (length task.states) w.now) closed.one_next closed.next_states states) in
    let later_env : w.later ≡ states_after task (env_from task front) (take (length task.states) (env_from task front)) = later ∙ ap (λ e. states_after task e (take (length task.states) e)) env in
    let row : w.row ≡ outs_in task (env_from task front) = outs ∙ ap (outs_in task) env in
    λ i. record { now = env i; later = later_env i; row = row i }
