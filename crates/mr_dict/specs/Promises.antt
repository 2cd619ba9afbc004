-- What putting in and taking out mean for looking up.
use Rattle.std.specs.Prelude.{◌≡◌, ℕ, ◌<◌, true, false, List, length, get_or, remove, Some, None}
use Rattle.mr_dict_entry.specs.Entries.{entry_key}
use Rattle.mr_dict_entry.specs.declared.entry.DictEntry.{DictEntry}
use Rattle.mr_dict.specs.Dictionary.{is_at, are_ordered, put_in, entry_of}
use Rattle.mr_dict.specs.Given.{no_entry}

-- an entry that was put in is found under its key, and what is found under any other key stays
pub record PutIsFound (e : DictEntry) (es : List DictEntry) : Type 0 where
  pub found : entry_of (entry_key e) (put_in e es) ≡ Some e
  pub others : (key : List ℕ) → is_at key e ≡ false → entry_of key (put_in e es) ≡ entry_of key es
  pub ordered : are_ordered es ≡ true → are_ordered (put_in e es) ≡ true

-- nothing is found under the key of an entry that was taken out, and what is found under any other key stays
pub record RemovedIsGone (at : ℕ) (es : List DictEntry) : Type 0 where
  pub gone : are_ordered es ≡ true → at < length es → entry_of (entry_key (get_or es at no_entry)) (remove es at) ≡ None
  pub others : (key : List ℕ) → is_at key (get_or es at no_entry) ≡ false → entry_of key (remove es at) ≡ entry_of key es
  pub ordered : are_ordered es ≡ true → are_ordered (remove es at) ≡ true
