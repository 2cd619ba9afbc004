-- What a writer holds stands for the versions that were added.
use Rattle.std.proofs.Common.{◌≡◌, ℕ, ◌+◌, ◌^◌, ◌<◌, ◌≤◌, true, false, cond, List, [], ◌∷◌, ◌++◌, length, take, sym, ◌∙◌, ap, subst, arith, append_assoc, length-append, Ok}
use Rattle.std.proofs.lemmas.List.{append-nil}
use Rattle.byteorder.specs.Endian.{big_bytes}
use Rattle.mr_iter.specs.Versions.{Version, joined}
use Rattle.mr_iter.specs.Order.{each-append}
use Rattle.mr_iter.specs.RunOuts.{with_version}
use Rattle.mr_block.specs.Block.{block_bytes, block_in, list_of}
use Rattle.mr_run_file.specs.Format.{first_key, last_key, key_bytes, blocks_bytes, all_indexed_bytes, index_bytes, footer_bytes, run_bytes}
use Rattle.mr_run_file.specs.Reading.{IsRunFile}
use Rattle.mr_run_file.specs.Written.{ReadsBack}
use Rattle.mr_run_file.proofs.Written.{is_read_back}
use Rattle.mr_run_writer.specs.Buffers.{EndsAt}
use Rattle.mr_run_writer.specs.Cuts.{IsNotLate, IsClosed}
use Rattle.mr_run_writer.specs.Drafts.{closed_bytes, versions_in_blocks, versions_of, is_nil, IsDraft, Stands, IsEnded, IsWritten}
use Rattle.mr_run_writer.specs.declared.writer.RunWriter.{RunWriter}
use Rattle.mr_run_writer.proofs.Holding.{length_held}
use Rattle.mr_run_writer.proofs.Blocks.{joined_push, blocks_push, index_push, last_push, nil_push, is_none, some_of, first_push, not_late, not_late_push, closed_cut, cut_push, blocks_listed}

-- ---- the versions

pub versions_are : (w : RunWriter) (file : List ℕ) (bs : List (List Version)) → IsDraft w file bs → versions_of w file ≡ joined bs ++ w.block.versions
versions_are w file bs d =
    ap (λ (n : ℕ). list_of (versions_in_blocks n w.index.bytes.items (closed_bytes w file)) ++ w.block.versions) d.count
    ∙ ap (λ (l : List ℕ). list_of (versions_in_blocks (length bs) l (closed_bytes w file)) ++ w.block.versions) d.index
    ∙ ap (λ (l : List ℕ). list_of (versions_in_blocks (length bs) (all_indexed_bytes 0 bs) l) ++ w.block.versions) d.bytes
    ∙ ap (λ r. list_of r ++ w.block.versions) (blocks_listed bs d.back d.small)

pub counted : (w : RunWriter) (file : List ℕ) → Stands w file → w.entries ≡ length (versions_of w file)
counted w file s = omega (arith, s.draft.entries, ap length (versions_are w file s.blocks s.draft), length-append (joined s.blocks) w.block.versions)

-- ---- a new writer

pub record IsFresh (w : RunWriter) : Type 0 where
  pub written : w.buffer.written ≡ 0
  pub held : w.buffer.held.items ≡ []
  pub index : w.index.bytes.items ≡ []
  pub blocks : w.index.blocks ≡ 0
  pub versions : w.block.versions ≡ []
  pub empty : w.block.is_empty ≡ true
  pub entries : w.entries ≡ 0
  pub last : w.last.items ≡ []

pub fresh : (w : RunWriter) (file : List ℕ) → IsFresh w → Stands w file
fresh w file f = record {
  blocks = [];
  draft = record {
    end = λ some. absurd (omega (arith, some, f.written));
    bytes = ap (λ (n : ℕ). take n file ++ w.buffer.held.items) f.written ∙ f.held;
    small = omega arith;
    index = f.index;
    count = f.blocks;
    back = tt;
    entries = omega (arith, f.entries, ap length f.versions);
    empty = f.empty ∙ sym (ap is_nil f.versions);
    first = λ some. let no : true ≡ false = sym (ap is_nil f.versions) ∙ some in cc;
    last = f.last ∙ sym (ap (λ (vs : List Version). last_key ([] ++ vs)) f.versions);
  };
  closed = tt;
  open_block = omega (arith, ap (λ (vs : List Version). length (block_bytes vs)) f.versions);
}

-- ---- one version more

pub record HasMore (w w2 : RunWriter) (v : Version) : Type 0 where
  pub written : w2.buffer.written ≡ w.buffer.written
  pub held : w2.buffer.held.items ≡ w.buffer.held.items
  pub index : w2.index.bytes.items ≡ w.index.bytes.items
  pub blocks : w2.index.blocks ≡ w.index.blocks
  pub versions : w2.block.versions ≡ w.block.versions ++ v ∷ []
  pub first : w2.block.first.items ≡ cond w.block.is_empty v.key w.block.first.items
  pub empty : w2.block.is_empty ≡ false
  pub entries : w2.entries ≡ w.entries + 1
  pub last : w2.last.items ≡ v.key

pub more : (w w2 : RunWriter) (v : Version) (file : List ℕ) (bs : List (List Version)) → HasMore w w2 v → IsDraft w file bs → IsDraft w2 file bs
more w w2 v file bs m d = record {
  end = subst (λ (n : ℕ). EndsAt n file) (sym m.written) d.end;
  bytes = ap (λ (n : ℕ). take n file ++ w2.buffer.held.items) m.written ∙ ap (λ (l : List ℕ). take w.buffer.written file ++ l) m.held ∙ d.bytes;
  small = d.small;
  index = m.index ∙ d.index;
  count = m.blocks ∙ d.count;
  back = d.back;
  entries = omega (arith, m.entries, d.entries, ap length m.versions, length-append w.block.versions (v ∷ []));
  empty = m.empty ∙ sym (ap is_nil m.versions ∙ nil_push w.block.versions v);
  first = λ some. m.first ∙ first_push w.block.versions v w.block.is_empty w.block.first.items d.empty d.first ∙ sym (ap first_key m.versions);
  last = m.last ∙ sym (ap (λ (vs : List Version). last_key (joined bs ++ vs)) m.versions ∙ ap last_key (sym (append_assoc (joined bs) w.block.versions (v ∷ []))) ∙ last_push (joined bs ++ w.block.versions) v);
}

pub stays_open : (w w2 : RunWriter) (v : Version) (file : List ℕ) → HasMore w w2 v → length (block_bytes w2.block.versions) < 4096 → Stands w file → Stands w2 file
stays_open w w2 v file m small s = record { blocks = s.blocks; draft = more w w2 v file s.blocks m s.draft; closed = s.closed; open_block = small }

pub adds : (w w2 : RunWriter) (v : Version) (file : List ℕ) → HasMore w w2 v → Stands w file → versions_of w2 file ≡ with_version (versions_of w file) v
adds w w2 v file m s =
    versions_are w2 file s.blocks (more w w2 v file s.blocks m s.draft)
    ∙ ap (λ (vs : List Version). joined s.blocks ++ vs) m.versions
    ∙ sym (append_assoc (joined s.blocks) w.block.versions (v ∷ []))
    ∙ ap (λ (vs : List Version). vs ++ v ∷ []) (sym (versions_are w file s.blocks s.draft))

-- ---- a block is closed

pub record HasClosed (w w2 : RunWriter) : Type 0 where
  pub index : w2.index.bytes.items ≡ ((w.index.bytes.items ++ big_bytes 8 (w.buffer.written + length w.buffer.held.items)) ++ big_bytes 4 (length (block_bytes w.block.versions))) ++ key_bytes w.block.first.items
  pub blocks : w2.index.blocks ≡ w.index.blocks + 1
  pub versions : w2.block.versions ≡ []
  pub empty : w2.block.is_empty ≡ true
  pub entries : w2.entries ≡ w.entries
  pub last : w2.last.items ≡ w.last.items
  pub room : w.buffer.written + length w.buffer.held.items + length (block_bytes w.block.versions) < 2 ^ 64
  pub size : length (block_bytes w.block.versions) < 2 ^ 32
  pub key : length w.block.first.items < 2 ^ 32
  pub back : block_in (block_bytes w.block.versions) ≡ Ok w.block.versions

regroup : (a b c d : List ℕ) → ((a ++ b) ++ c) ++ d ≡ a ++ (b ++ (c ++ d))
regroup a b c d = simp append_assoc

pub close : (w w2 : RunWriter) (file file2 : List ℕ) (bs : List (List Version)) → HasClosed w w2 → is_nil w.block.versions ≡ false → EndsAt w2.buffer.written file2
    → closed_bytes w2 file2 ≡ closed_bytes w file ++ block_bytes w.block.versions → IsDraft w file bs → IsDraft w2 file2 (bs ++ w.block.versions ∷ [])
close w w2 file file2 bs c some ends bytes d =
    let vs = w.block.versions in
    let first = d.first some in
    let place : w.buffer.written + length w.buffer.held.items ≡ length (blocks_bytes bs) = sym (length_held w.buffer.written w.buffer.held.items file d.end) ∙ ap length d.bytes in
    record {
      end = ends;
      bytes = bytes ∙ ap (λ (l : List ℕ). l ++ block_bytes w.block.versions) d.bytes ∙ sym (blocks_push bs w.block.versions);
      small = omega (arith, ap length (blocks_push bs w.block.versions), length-append (blocks_bytes bs) (block_bytes w.block.versions), place, c.room);
      index = c.index
          ∙ regroup w.index.bytes.items (big_bytes 8 (w.buffer.written + length w.buffer.held.items)) (big_bytes 4 (length (block_bytes w.block.versions))) (key_bytes w.block.first.items)
          ∙ ap (λ (l : List ℕ). l ++ (big_bytes 8 (w.buffer.written + length w.buffer.held.items) ++ (big_bytes 4 (length (block_bytes w.block.versions)) ++ key_bytes w.block.first.items))) d.index
          ∙ ap (λ (n : ℕ). all_indexed_bytes 0 bs ++ (big_bytes 8 n ++ (big_bytes 4 (length (block_bytes w.block.versions)) ++ key_bytes w.block.first.items))) (place ∙ zero_on (length (blocks_bytes bs)))
          ∙ ap (λ (l : List ℕ). all_indexed_bytes 0 bs ++ (big_bytes 8 (0 + length (blocks_bytes bs)) ++ (big_bytes 4 (length (block_bytes w.block.versions)) ++ key_bytes l))) first
          ∙ sym (index_push 0 bs w.block.versions);
      count = omega (arith, c.blocks, d.count, length-append bs (w.block.versions ∷ []));
      back = each-append ReadsBack bs (w.block.versions ∷ []) d.back (record { some = some_of w.block.versions some; back = c.back; size = c.size; key = omega (arith, ap length first, c.key) }, tt);
      entries = omega (arith, c.entries, d.entries, ap length (joined_push bs w.block.versions), length-append (joined bs) w.block.versions, ap length c.versions);
      empty = c.empty ∙ sym (ap is_nil c.versions);
      first = λ still. let no : true ≡ false = sym (ap is_nil c.versions) ∙ still in cc;
      last = c.last ∙ d.last ∙ ap last_key (sym (joined_push bs w.block.versions) ∙ sym (append-nil (joined (bs ++ w.block.versions ∷ []))) ∙ ap (λ (us : List Version). joined (bs ++ w.block.versions ∷ []) ++ us) (sym c.versions));
    }
  where
    zero_on : (n : ℕ) → n ≡ 0 + n
    zero_on n = omega arith

-- the version that fills its block: w before it, w1 with it, w2 behind the block
module _ (w w1 w2 : RunWriter) (v : Version) (file file2 : List ℕ) (m : HasMore w w1 v) (c : HasClosed w1 w2) (full : 4096 ≤ length (block_bytes w1.block.versions)) (ends : EndsAt w2.buffer.written file2) (bytes : closed_bytes w2 file2 ≡ closed_bytes w1 file ++ block_bytes w1.block.versions) (s : Stands w file) where
  some_now : is_nil w1.block.versions ≡ false
  some_now = ap is_nil m.versions ∙ nil_push w.block.versions v

  filled_draft : IsDraft w2 file2 (s.blocks ++ w1.block.versions ∷ [])
  filled_draft = close w1 w2 file file2 s.blocks c some_now ends bytes (more w w1 v file s.blocks m s.draft)

  pub filled : Stands w2 file2
  filled = record {
    blocks = s.blocks ++ w1.block.versions ∷ [];
    draft = filled_draft;
    closed = each-append IsClosed s.blocks (w1.block.versions ∷ []) s.closed (record { full = full; not_late = subst IsNotLate (sym m.versions) (not_late_push w.block.versions v s.open_block) }, tt);
    open_block = omega (arith, ap (λ (vs : List Version). length (block_bytes vs)) c.versions);
  }

  pub filled_adds : versions_of w2 file2 ≡ with_version (versions_of w file) v
  filled_adds =
      versions_are w2 file2 (s.blocks ++ w1.block.versions ∷ []) filled_draft
      ∙ ap (λ (vs : List Version). joined (s.blocks ++ w1.block.versions ∷ []) ++ vs) c.versions
      ∙ append-nil (joined (s.blocks ++ w1.block.versions ∷ []))
      ∙ joined_push s.blocks w1.block.versions
      ∙ ap (λ (vs : List Version). joined s.blocks ++ vs) m.versions
      ∙ sym (append_assoc (joined s.blocks) w.block.versions (v ∷ []))
      ∙ ap (λ (vs : List Version). vs ++ v ∷ []) (sym (versions_are w file s.blocks s.draft))

-- ---- the end

pub ended_none : (w : RunWriter) (file : List ℕ) → w.block.is_empty ≡ true → Stands w file → IsEnded w file (versions_of w file)
ended_none w file none s =
    let empty : w.block.versions ≡ [] = is_none w.block.versions (sym s.draft.empty ∙ none) in
    record {
      blocks = s.blocks;
      draft = s.draft;
      none_open = empty;
      cut = closed_cut s.blocks s.closed;
      list = sym (versions_are w file s.blocks s.draft ∙ ap (λ (vs : List Version). joined s.blocks ++ vs) empty ∙ append-nil (joined s.blocks));
    }

pub ended_some : (w w2 : RunWriter) (file file2 : List ℕ) → w.block.is_empty ≡ false → HasClosed w w2 → EndsAt w2.buffer.written file2
    → closed_bytes w2 file2 ≡ closed_bytes w file ++ block_bytes w.block.versions → Stands w file → IsEnded w2 file2 (versions_of w file)
ended_some w w2 file file2 some c ends bytes s = record {
  blocks = s.blocks ++ w.block.versions ∷ [];
  draft = close w w2 file file2 s.blocks c (sym s.draft.empty ∙ some) ends bytes s.draft;
  none_open = c.versions;
  cut = cut_push s.blocks w.block.versions s.closed (not_late w.block.versions s.open_block);
  list = joined_push s.blocks w.block.versions ∙ sym (versions_are w file s.blocks s.draft);
}

some_blocks : (bs : List (List Version)) → 0 < length (joined bs) → 0 < length bs
some_blocks [] some = omega (arith, some)
some_blocks (b ∷ bs) some = omega arith

pub written_out : (w : RunWriter) (file file2 tail : List ℕ) (vs : List Version) (place : ℕ) → IsEnded w file vs → 0 < w.entries → place ≡ w.buffer.written + length w.buffer.held.items
    → tail ≡ (w.index.bytes.items ++ key_bytes w.last.items) ++ footer_bytes place (length (w.index.bytes.items ++ key_bytes w.last.items)) w.index.blocks w.entries
    → file2 ≡ closed_bytes w file ++ tail → length file2 < 2 ^ 64 → length w.last.items < 2 ^ 32 → IsWritten file2 vs
written_out w file file2 tail vs place e some at is whole small last =
    let bs = e.blocks in
    let d = e.draft in
    let place_is : place ≡ length (blocks_bytes bs) = at ∙ sym (length_held w.buffer.written w.buffer.held.items file d.end) ∙ ap length d.bytes in
    let last_is : w.last.items ≡ last_key (joined bs) = d.last ∙ ap last_key (ap (λ (us : List Version). joined bs ++ us) e.none_open ∙ append-nil (joined bs)) in
    let index : w.index.bytes.items ++ key_bytes w.last.items ≡ index_bytes bs = ap (λ (l : List ℕ). l ++ key_bytes w.last.items) d.index ∙ ap (λ (l : List ℕ). all_indexed_bytes 0 bs ++ key_bytes l) last_is in
    let entries : w.entries ≡ length (joined bs) = omega (arith, d.entries, ap length e.none_open) in
    let tail_is : tail ≡ index_bytes bs ++ footer_bytes (length (blocks_bytes bs)) (length (index_bytes bs)) (length bs) (length (joined bs)) =
    is
    ∙ ap (λ (l : List ℕ). l ++ footer_bytes place (length l) w.index.blocks w.entries) index
    ∙ ap (λ (n : ℕ). index_bytes bs ++ footer_bytes n (length (index_bytes bs)) w.index.blocks w.entries) place_is
    ∙ ap (λ (n : ℕ). index_bytes bs ++ footer_bytes (length (blocks_bytes bs)) (length (index_bytes bs)) n w.entries) d.count
    ∙ ap (λ (n : ℕ). index_bytes bs ++ footer_bytes (length (blocks_bytes bs)) (length (index_bytes bs)) (length bs) n) entries in
    let run : file2 ≡ run_bytes bs = whole ∙ ap (λ (l : List ℕ). l ++ tail) d.bytes ∙ ap (λ (l : List ℕ). blocks_bytes bs ++ l) tail_is in
    let read : IsRunFile (length (joined bs)) (run_bytes bs) (joined bs) = is_read_back bs (some_blocks bs (omega (arith, some, entries))) d.back (omega (arith, last, ap length last_is)) (omega (arith, small, ap length run)) in
    record {
      blocks = bs;
      bytes = run;
      list = e.list;
      cut = e.cut;
      read = subst (λ (us : List Version). IsRunFile (length us) file2 us) e.list (subst (λ (l : List ℕ). IsRunFile (length (joined bs)) l (joined bs)) (sym run) read);
    }
