-- What a task computes at its shut is what the meaning computes in the instance.
use Rattle.std.proofs.Common.{◌≡◌, ℕ, zero, suc, ℤ, pos, ◌+◌, ◌-◌, ◌<◌, ◌≤◌, List, [], ◌∷◌, ◌++◌, length, map, drop, get_or, take, refl, sym, subst, ◌∙◌, ap, arith, length-append, length-drop}
use Rattle.std.proofs.lemmas.List.{append_assoc, ext_get_or, get_or-append-add, get_or-drop, get_or-map, get_or-take, get_or_append_left, length-map, length-take-le}
use Rattle.std.proofs.lemmas.Option.{slice_get-get_or}
use Rattle.dbp_plan.specs.declared.diagram.Task.{Task}
use Rattle.dbp_plan.specs.declared.plan.Plan.{Plan}
use Rattle.dbp_plan.specs.Closed.{let_base, place_count}
use Rattle.dbp_plan.specs.Occurrences.{times_of}
use Rattle.dbp_plan.specs.Samples.{input_value}
use Rattle.dbp_plan.specs.Lookups.{declared_task, no_declared_task, no_read}
use Rattle.sync_meaning.specs.Meaning.{outs_in}
use Rattle.sync_meaning.specs.SomeMeaningEnvs.{IsEnvFrom, env_from-is, states_after}
use Rattle.sync_meaning.specs.SomeMeaningRows.{Solves, env_at, given_at, states_at, states_at-more, value_at}
use Rattle.dbp_plan.specs.ListItems.{same_item}
use Rattle.dbp_rules.specs.Moves as move
use Rattle.dbp_rules.specs.Lookups.{read_at, time, wired_task}
use Rattle.dbp_rules.specs.SoundParts.{meant_value, place_of_read, read_of}
use Rattle.dbp_rules.specs.Work.{WorkWords}
use Rattle.dbp_rules.specs.declared.wiring.Wiring.{Wiring}
use Rattle.dbp_rules.proofs.SoundOwn.{IsOwn}

take_rest : (xs ys : List ℤ) (n r : ℕ) → length xs ≡ n → take (n + r) (xs ++ ys) ≡ xs ++ take r ys
take_rest [] ys n r size = let none : n + r ≡ r = omega arith in rw none refl
take_rest (x ∷ xs) ys zero r size = absurd (omega arith)
take_rest (x ∷ xs) ys (suc n) r size =
    let more : suc n + r ≡ suc (n + r) = omega arith in
    rw more (ap (λ zs. x ∷ zs) (take_rest xs ys n r (omega arith)))

-- what a task has to compute with in its instance m + 1: its states after m instances, and the words that the meaning gives its reads
pub record HasItsWords (p : Plan) (w : Wiring) (rows : ℕ → ℕ → List ℤ) (i m : ℕ) (work : WorkWords) : Type 0 where
  pub size : length work.now ≡ place_count (declared_task p i)
  pub states : take (length (declared_task p i).states) work.now ≡ states_at p.diagram p.samples p.batches rows i (declared_task p i) m
  pub taken : (n : ℕ) → n < length (wired_task w i).reads → get_or work.now (place_of_read p w i n) (pos 0) ≡ meant_value p rows i (m + 1) (read_of p w i n)

-- what it has computed in that instance: the row, and its next states; what it has computed with stays
pub record HasComputed (p : Plan) (w : Wiring) (rows : ℕ → ℕ → List ℤ) (i m : ℕ) (work : WorkWords) : Type 0 where
  pub given : HasItsWords p w rows i m work
  pub row : work.row ≡ rows i (m + 1)
  pub later : work.later ≡ states_at p.diagram p.samples p.batches rows i (declared_task p i) (m + 1)

module _ (p : Plan) (w : Wiring) (rows : ℕ → ℕ → List ℤ) (own : IsOwn p w) (solves : Solves p.diagram p.samples p.batches rows) (i m : ℕ) (work : WorkWords) (below : i < length w.tasks) (room : m < length (times_of p.batches i)) (has : HasItsWords p w rows i m work) where
  abbrev d : Task
  d = declared_task p i

  -- the time of the instance
  abbrev now : ℕ
  now = get_or (times_of p.batches i) m 0

  abbrev sense_values : List ℤ
  sense_values = map (λ x. input_value p.diagram.inputs p.samples x.input now) d.senses

  abbrev states : List ℤ
  states = states_at p.diagram p.samples p.batches rows i d m

  abbrev words : List ℤ
  words = map (value_at p.diagram p.samples p.batches rows now) d.reads

  abbrev given : List ℤ
  given = given_at p.diagram p.samples p.batches rows d now states

  abbrev env : List ℤ
  env = env_at p.diagram p.samples p.batches rows i d m

  states_size : length states ≡ length d.states
  states_size = ap length (sym has.states) ∙ length-take-le (length d.states) work.now (omega (arith, has.size))

  sensed_size : length sense_values ≡ length d.senses
  sensed_size = length-map d.senses _

  words_size : length words ≡ length d.reads
  words_size = length-map d.reads _

  -- the word of a read, if the task has put it
  read_value : (j : ℕ) → j < length d.reads → get_or work.now (length d.states + length d.senses + j) (pos 0) ≡ get_or words j (pos 0)
  read_value j inside =
      let n : (n : ℕ) × (n < length (wired_task w i).reads) × ((read_at (wired_task w i) n).read ≡ j) = own.turned i j below inside in
      let taken : get_or work.now (place_of_read p w i n.0) (pos 0) ≡ meant_value p rows i (m + 1) (read_of p w i n.0) = has.taken n.0 n.1 in
      let time : m + 1 - 1 ≡ m = omega arith in
      ap (λ (x : ℕ). get_or work.now (length d.states + length d.senses + x) (pos 0)) (sym n.2)
      ∙ taken
      ∙ ap (λ (x : ℕ). meant_value p rows i (m + 1) (get_or d.reads x no_read)) n.2
      ∙ ap (λ (x : ℕ). value_at p.diagram p.samples p.batches rows (get_or (times_of p.batches i) x 0) (get_or d.reads j no_read)) time
      ∙ sym (get_or-map (value_at p.diagram p.samples p.batches rows now) d.reads j no_read (pos 0) inside)

  -- what the instance begins with
  given_is : (senses : List ℤ) → senses ≡ sense_values → take (let_base d) (move.with_senses d senses work).now ≡ given
  given_is senses same =
      let size : length senses ≡ length d.senses = ap length same ∙ sensed_size in
      let front : List ℤ = take (length d.states) work.now in
      let front_size : length front ≡ length d.states = length-take-le (length d.states) work.now (omega (arith, has.size)) in
      let rest : List ℤ = drop (length d.states + length senses) work.now in
      let rest_size : length d.reads ≤ length rest = omega (arith, length-drop (length d.states + length senses) work.now, size, has.size) in
      let taken_size : length (take (length d.reads) rest) ≡ length d.reads = length-take-le (length d.reads) rest rest_size in
      let place : length d.states + length senses ≡ length d.states + length d.senses = omega arith in
      let reads : take (length d.reads) rest ≡ words = ext_get_or (pos 0) (take (length d.reads) rest) words (taken_size ∙ sym words_size) (λ j less.
      let inside : j < length d.reads = omega arith in
      get_or-take (length d.reads) rest j (pos 0) inside
      ∙ get_or-drop (length d.states + length senses) work.now j (pos 0)
      ∙ ap (λ (x : ℕ). get_or work.now (x + j) (pos 0)) place
      ∙ read_value j inside) in
      let joined : length (front ++ senses) ≡ length d.states + length d.senses = length-append front senses ∙ omega (arith, front_size, size) in
      ap (λ xs. take (let_base d) xs) (sym (append_assoc front senses rest))
      ∙ take_rest (front ++ senses) rest (length d.states + length d.senses) (length d.reads) joined
      ∙ ap (λ xs. (front ++ senses) ++ xs) reads
      ∙ ap (λ xs. (front ++ xs) ++ words) same
      ∙ ap (λ xs. (xs ++ sense_values) ++ words) has.states

  given_size : length given ≡ let_base d
  given_size = length-append (states ++ sense_values) words ∙ omega (arith, length-append states sense_values, states_size, sensed_size, words_size)

  env_is : IsEnvFrom d given env
  env_is = env_from-is d given (own.whole.each_task i below).closed.order given_size

  -- its states and the words of its reads are as they were
  env_states : take (length d.states) env ≡ states
  env_states =
      let size : length (take (length d.states) env) ≡ length d.states = length-take-le (length d.states) env (omega (arith, env_is.size)) in
      ext_get_or (pos 0) (take (length d.states) env) states (size ∙ sym states_size) (λ j less.
      let inside : j < length d.states = omega arith in
      get_or-take (length d.states) env j (pos 0) inside
      ∙ same_item env given j (pos 0) (env_is.given_values j (omega arith))
      ∙ get_or_append_left (states ++ sense_values) words (pos 0) j (omega (arith, length-append states sense_values, states_size))
      ∙ get_or_append_left states sense_values (pos 0) j (omega (arith, states_size)))

  env_reads : (n : ℕ) → n < length (wired_task w i).reads → get_or env (place_of_read p w i n) (pos 0) ≡ meant_value p rows i (m + 1) (read_of p w i n)
  env_reads n few =
      let r : ℕ = (read_at (wired_task w i) n).read in
      let inside : r < length d.reads = ((own.whole.each_task i below).each_read n few).read in
      let joined : length (states ++ sense_values) ≡ length d.states + length d.senses = length-append states sense_values ∙ omega (arith, states_size, sensed_size) in
      same_item env given (place_of_read p w i n) (pos 0) (env_is.given_values (place_of_read p w i n) (omega arith))
      ∙ ap (λ (x : ℕ). get_or given (x + r) (pos 0)) (sym joined)
      ∙ get_or-append-add (states ++ sense_values) words r (pos 0)
      ∙ sym (read_value r inside)
      ∙ has.taken n few

  row_is : outs_in d env ≡ rows i (m + 1)
  row_is =
      let one : m + 1 ≡ suc m = omega arith in
      sym (ap (rows i) one ∙ solves.each i (suc m) d (slice_get-get_or p.diagram.tasks i no_declared_task (omega (arith, below, own.whole.tasks))) (omega arith))

  later_is : states_after d env (take (length d.states) env) ≡ states_at p.diagram p.samples p.batches rows i d (m + 1)
  later_is =
      let one : m + 1 ≡ suc m = omega arith in
      ap (λ xs. states_after d env xs) env_states
      ∙ sym (states_at-more p.diagram p.samples p.batches rows i d m)
      ∙ ap (λ (n : ℕ). states_at p.diagram p.samples p.batches rows i d n) (sym one)

  -- the senses at the time of the instance
  senses_are : map (λ x. input_value p.diagram.inputs p.samples x.input (time (wired_task w i) (m + 1))) d.senses ≡ sense_values
  senses_are =
      let one : m + 1 - 1 ≡ m = omega arith in
      ap (λ (t : ℕ). map (λ x. input_value p.diagram.inputs p.samples x.input t) d.senses)
      (ap (λ (ts : List ℕ). get_or ts (m + 1 - 1) 0) (own.whole.each_task i below).times ∙ ap (λ (n : ℕ). get_or (times_of p.batches i) n 0) one)

  computed_is : HasComputed p w rows i m (move.work_words_of d given)
  computed_is = record {
    given = record { size = env_is.size; states = env_states; taken = env_reads };
    row = row_is;
    later = later_is;
  }

  -- what it computes with the values of its senses at that time is what the meaning computes
  pub worked_is : HasComputed p w rows i m (move.after_compute d (map (λ x. input_value p.diagram.inputs p.samples x.input (time (wired_task w i) (m + 1))) d.senses) work)
  worked_is =
      let senses : List ℤ = map (λ x. input_value p.diagram.inputs p.samples x.input (time (wired_task w i) (m + 1))) d.senses in
      subst (λ (g : List ℤ). HasComputed p w rows i m (move.work_words_of d g)) (sym (given_is senses senses_are)) computed_is
