-- How long the releaser's list gets.
use Rattle.std.proofs.Common.{◌≡◌, ℕ, ◌+◌, ◌*◌, ◌<◌, ◌≤◌, List, [], ◌∷◌, ◌++◌, length, get_or, take, map, ap, sym, arith, length-append}
use Rattle.std.proofs.Math.Nat.{mul-le-mul_left}
use Rattle.std.proofs.lemmas.List.{length-map}
use Rattle.std.proofs.lemmas.List.Concat.{length-flat_map}
use Rattle.std.proofs.lemmas.List.Sums.{sum_by-cons, sum_by-le, sum_by_more_le}
use Rattle.dbp_plan.specs.declared.diagram.Link.{Link}
use Rattle.dbp_plan.specs.declared.schedule.Batch.{Batch}
use Rattle.dbp_plan.specs.Occurrences.{occurrence_count}
use Rattle.release_list.specs.declared.release.Release.TheVariants.{Aim, Claim, OpenGate}
use Rattle.release_list.specs.Releases.{links_into, claims_into, claims_of, releases_at, releases_of}
use Rattle.release_list.proofs.IntoLinks.{into_few}

pub claims_few : (links : List Link) (tasks : List ℕ) → length (claims_of links tasks) ≤ length tasks * length links
claims_few links tasks =
    let each : (i : ℕ) → length (claims_into links i) ≤ length links = λ i. omega (arith, length-map (links_into links i) Claim, into_few links i (length links)) in
    omega (arith, length-flat_map (claims_into links) tasks, sum_by-le (λ i. length (claims_into links i)) (length links) tasks (λ k d below. each (get_or tasks k d)))

batch_few : (links : List Link) (b : Batch) → length (releases_at links b) ≤ length b.tasks * (length links + 2)
batch_few links b =
    omega
    (arith, length-append (map Aim b.tasks) (claims_of links b.tasks ++ map OpenGate b.tasks), length-append (claims_of links b.tasks) (map OpenGate b.tasks), length-map b.tasks Aim, length-map b.tasks OpenGate, claims_few links b.tasks)

-- an aim and an open of each occurrence, and at most a claim of each link
pub released_few : (links : List Link) (bs : List Batch) → length (releases_of links bs) ≤ occurrence_count bs * (length links + 2)
released_few links [] = omega arith
released_few links (b ∷ bs) =
    rw (sum_by-cons (λ (a : Batch). length a.tasks) b bs) (omega (arith, length-append (releases_at links b) (releases_of links bs), batch_few links b, released_few links bs))

-- so the list of a plan has room for one batch more, read from its batches
pub room : (links : List Link) (bs items : List Batch) (n : ℕ) (b : Batch) → items ≡ bs → n < length items → b ≡ get_or items n b → length links ≤ 128 → occurrence_count bs ≤ 100000
    → length (releases_of links (take n bs)) + length b.tasks * (length links + 2) ≤ 13000000
room links bs items n b all below is links_few few =
    let inside : n < length bs = omega (arith, ap length all) in
    let more : occurrence_count (take n bs) + length (get_or bs n b).tasks ≤ occurrence_count bs = sum_by_more_le (λ (a : Batch). length a.tasks) bs n b inside in
    let here : get_or bs n b ≡ b = sym (rw all at is) in
    let front : occurrence_count (take n bs) * (length links + 2) ≤ occurrence_count (take n bs) * 130 = mul-le-mul_left (occurrence_count (take n bs)) (omega arith) in
    let own : length b.tasks * (length links + 2) ≤ length b.tasks * 130 = mul-le-mul_left (length b.tasks) (omega arith) in
    omega (arith, released_few links (take n bs), rw here at more)
