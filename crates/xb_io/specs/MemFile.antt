use Rattle.std.specs.Prelude.{List, [], ◌∷◌, Some, None, bytes_eq, string_bytes, if◌then◌else◌, unwrap_or}
use Rattle.xb_io.specs.declared.memory_files.MemFile.{MemFile}
use Rattle.xb_io.specs.Contents.{Contents}

-- what the first file of that name holds
abbrev pub contents_of : List MemFile → Contents
contents_of [] name = None
contents_of (file ∷ files) name = if bytes_eq (string_bytes file.name) name then Some file.bytes.items else contents_of files name

-- the same, where a name that isn't listed holds an empty file
abbrev pub contents_or_empty : List MemFile → Contents
contents_or_empty files name = Some (unwrap_or (contents_of files name) [])
