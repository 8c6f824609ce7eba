mod NoWord
