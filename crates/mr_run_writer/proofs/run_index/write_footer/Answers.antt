use Rattle.std.proofs.Common.{◌≡◌, ℕ, List, ◌++◌, ◌∙◌, ap, append_assoc}
use Rattle.std.proofs.lemmas.Result.{on_ok_weaker}
use Rattle.byteorder.specs.Endian.{big_bytes}
use Rattle.mr_run_file.specs.Format.{format_name}
use Rattle.mr_run_writer.proofs.run_index.write_footer.Goals as goal

chain : (o a b c d e o1 o2 o3 o4 o5 : List ℕ) → o1 ≡ o ++ a → o2 ≡ o1 ++ b → o3 ≡ o2 ++ c → o4 ≡ o3 ++ d → o5 ≡ o4 ++ e → o5 ≡ o ++ (a ++ (b ++ (c ++ (d ++ e))))
chain o a b c d e o1 o2 o3 o4 o5 e1 e2 e3 e4 e5 =
    e5 ∙ ap (λ (l : List ℕ). l ++ e) (e4 ∙ ap (λ (l : List ℕ). l ++ d) (e3 ∙ ap (λ (l : List ℕ). l ++ c) (e2 ∙ ap (λ (l : List ℕ). l ++ b) e1))) ∙ simp append_assoc

pub returns : goal.returns
returns c = on_ok_weaker c.write_bytes.result (λ is.
    chain c.args.out.now.items (big_bytes 8 c.args.place) (big_bytes 8 c.args.size) (big_bytes 8 c.args.blocks) (big_bytes 8 c.args.entries) format_name
    c.write_u64.new.out.items c.write_u64-2.new.out.items c.write_u64-3.new.out.items c.write_u64-4.new.out.items c.write_bytes.new.out.items
    c.in_ok-write_u64.ensures c.in_ok-write_u64-2.ensures c.in_ok-write_u64-3.ensures c.in_ok-write_u64-4.ensures is) c.write_bytes.ensures
