-- What bytes that were read of a file say of its blocks.
use Rattle.std.proofs.Common.{◌≡◌, ℕ, ◌+◌, ◌*◌, ◌<◌, ◌≤◌, Bool, IsTrue, true, false, List, [], ◌∷◌, ◌++◌, length, take, drop, get_or, map, refl, sym, ◌∙◌, ap, subst, arith, nat_le, true≢false, Result, Ok, Err, IfOk, IfErr}
use Rattle.std.proofs.Math.ListN.{replicate}
use Rattle.std.proofs.Math.Seq.{drop-append_seam}
use Rattle.std.proofs.lemmas.List.{take_all, length-replicate}
use Rattle.mr_base.specs.Disk.{State, Tells, seen}
use Rattle.mr_base.specs.declared.stop.Stop.{Stop}
use Rattle.mr_base.specs.declared.stop.Stop.TheVariants.{Memory, Disk, Full, Damaged}
use Rattle.mr_iter.specs.Versions.{Version}
use Rattle.mr_iter.specs.Cursors.{MayStop, IsDamage}
use Rattle.mr_block.specs.Block.{block_in}
use Rattle.mr_run_file.specs.Format.{first_key}
use Rattle.mr_run_file.specs.Reading.{Indexed, demand, counted_from, key_demand, block_at, versions_at}
use Rattle.mr_run_open.specs.Runs.{RunState, no_block}
use Rattle.mr_run_open.proofs.Indexing.{bound, ok_same}
use Rattle.mr_run_get.specs.Get.{sizes, cut_at, all_cut, read_in, AreCutStops, AreAdjacent, AreRead, IsGapless, IsOffenceIn}
use Rattle.mr_run_get.proofs.Between.{cut_is, cuts_are, stands_at}

counted : (place : ℕ) (r : Result (List Version) ℕ) (vs : List Version) → counted_from place r ≡ Ok vs → r ≡ Ok vs
counted place (Ok ws) vs is = is
counted place (Err at) vs is = cc

-- a block that was judged whole is one by its form
pub read_of : (file : List ℕ) (b : Indexed) (vs : List Version) → versions_at file b ≡ Ok vs → read_in file b ≡ Ok vs
read_of file b vs is =
    let form = bound (counted_from b.place (block_in (block_at file b))) _ vs is in
    let some = bound (demand (nat_le 1 (length form.x)) b.place) _ vs form.next in
    let first = bound (key_demand b.key (first_key form.x) (b.place + 4 + 4 * length form.x)) _ vs some.next in
    let same : form.x ≡ vs = ok_same _ _ _ refl first.next in
    counted b.place (block_in (block_at file b)) vs (form.now ∙ ap (λ (ws : List Version). Ok ws) same)

reads_of : (file : List ℕ) (bs : List Indexed) (vss : List (List Version)) → map (versions_at file) bs ≡ map Ok vss → AreRead file bs vss
reads_of file [] [] is = refl
reads_of file [] (vs ∷ vss) is = cc
reads_of file (b ∷ bs) [] is = cc
reads_of file (b ∷ bs) (vs ∷ vss) is =
    let one : versions_at file b ≡ Ok vs = cc in
    let more : map (versions_at file) bs ≡ map Ok vss = cc in
    ap (λ (r : Result (List Version) ℕ). r ∷ map (read_in file) bs) (read_of file b vs one) ∙ ap (λ (rs : List (Result (List Version) ℕ)). Ok vs ∷ rs) (reads_of file bs vss more)

pub all_read : (file bytes : List ℕ) (start : ℕ) (bs : List Indexed) (vss : List (List Version)) → AreAdjacent start bs → bytes ≡ take (sizes bs) (drop start file) → all_cut bytes 0 bs ≡ map Ok vss → AreRead file bs vss
all_read file bytes start bs vss adjoin is cut =
    let none : start ≡ start + 0 = omega arith in
    reads_of file bs vss
    (sym (cuts_are file start 0 (sizes bs) bs (subst (λ (n : ℕ). AreAdjacent n bs) none adjoin) (omega arith))
    ∙ ap (λ (xs : List ℕ). all_cut xs 0 bs) (sym is) ∙ cut)

offence_at : (file bytes : List ℕ) (start i at : ℕ) (bs : List Indexed) → AreAdjacent start bs → i < length bs → bytes ≡ take (sizes bs) (drop start file) → cut_at bytes (sizes (take i bs)) (get_or bs i no_block) ≡ Err at → versions_at file (get_or bs i no_block) ≡ Err at
offence_at file bytes start i at bs adjoin lt is err =
    let stands = stands_at start i bs lt adjoin in
    sym (cut_is file start (sizes (take i bs)) (sizes bs) (get_or bs i no_block) stands.0 stands.1)
    ∙ ap (λ (xs : List ℕ). cut_at xs (sizes (take i bs)) (get_or bs i no_block)) (sym is) ∙ err

behind_padding : (place size : ℕ) (bytes : List ℕ) → length bytes ≤ size → take size (drop place (replicate place 0 ++ bytes)) ≡ bytes
behind_padding place size bytes le =
    ap (λ (n : ℕ). take size (drop n (replicate place 0 ++ bytes))) (sym (length-replicate place 0))
    ∙ ap (take size) (drop-append_seam (replicate place 0) bytes)
    ∙ take_all size bytes le

damage : (r : RunState) (bs : List Indexed) (old : State) (bytes : List ℕ) (start f at i : ℕ) → (IsGapless r → AreAdjacent start bs) → length bytes ≤ sizes bs → (Tells old → bytes ≡ take (sizes bs) (drop start (seen old r.file))) →
    f ≡ r.file → i < length bs → cut_at bytes (sizes (take i bs)) (get_or bs i no_block) ≡ Err at → IsDamage (IsOffenceIn r bs) old f at
damage r bs old bytes start f at i adjoin few told same lt err = by_tells old.tells refl
  where
    by_tells : (t : Bool) → old.tells ≡ t → IsDamage (IsOffenceIn r bs) old f at
    by_tells true is = record {
      image = seen old;
      told = λ tells. refl;
      offence = (same, λ gapless. (i, lt, offence_at (seen old f) bytes start i at bs (adjoin gapless) lt (told (subst (λ (b : Bool). IsTrue b) (sym is) refl) ∙ ap (λ (n : ℕ). take (sizes bs) (drop start (seen old n))) (sym same)) err));
    }
    by_tells false is = record {
      image = λ file. replicate start 0 ++ bytes;
      told = λ tells. absurd (true≢false (sym (subst (λ (b : Bool). IsTrue b) is tells)));
      offence = (same, λ gapless. (i, lt, offence_at (replicate start 0 ++ bytes) bytes start i at bs (adjoin gapless) lt (sym (behind_padding start (sizes bs) bytes few)) err));
    }

pub stops_of : (r : RunState) (bs : List Indexed) (old new : State) (bytes : List ℕ) (start : ℕ) (stop : Stop) → (IsGapless r → AreAdjacent start bs) → length bytes ≤ sizes bs → (Tells old → bytes ≡ take (sizes bs) (drop start (seen old r.file))) →
    AreCutStops r.file bytes bs stop → MayStop (IsOffenceIn r bs) old new stop
stops_of r bs old new bytes start Memory adjoin few told is = tt
stops_of r bs old new bytes start Disk adjoin few told is = absurd is
stops_of r bs old new bytes start (Full what at limit) adjoin few told is = is
stops_of r bs old new bytes start (Damaged f at) adjoin few told is = damage r bs old bytes start f at is.1.0 adjoin few told is.0 is.1.1 is.1.2

-- a read that judges nothing doesn't find damage
pub stops_reading : (r : RunState) (bs : List Indexed) (old new : State) (stop : Stop) → MayStop (λ image f at. ⊥) old new stop → MayStop (IsOffenceIn r bs) old new stop
stops_reading r bs old new Memory is = tt
stops_reading r bs old new Disk is = is
stops_reading r bs old new (Full what at limit) is = is
stops_reading r bs old new (Damaged f at) is = absurd is.offence

pub if_ok : {A E : Type 0} (r : Result A E) (P Q : A → Type 0) → ((x : A) → P x → Q x) → IfOk r P → IfOk r Q
if_ok (Ok x) P Q law is = law x is
if_ok (Err e) P Q law is = tt

pub if_err : {A E : Type 0} (r : Result A E) (P Q : E → Type 0) → ((e : E) → P e → Q e) → IfErr r P → IfErr r Q
if_err (Ok x) P Q law is = tt
if_err (Err e) P Q law is = law e is

-- what was read of the file, by the names of the blocks
pub bytes_told : (old : State) (file f size total place start : ℕ) (items bytes : List ℕ) → f ≡ file → size ≡ total → place ≡ start → bytes ≡ items → items ≡ take size (drop place (seen old f)) → bytes ≡ take total (drop start (seen old file))
bytes_told old file f size total place start items bytes same long at value is =
    value ∙ is ∙ ap (λ (n : ℕ). take n (drop place (seen old f))) long ∙ ap (λ (n : ℕ). take total (drop n (seen old f))) at ∙ ap (λ (n : ℕ). take total (drop start (seen old n))) same
